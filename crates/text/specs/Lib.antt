pub mod Letters
pub mod Pieces
pub mod Words
pub mod Commands
pub mod Replies
pub mod Pages
pub mod Texts

-- What was written on a page. Assumes nothing.
use Rattle.std.specs.Prelude.{◌≡◌, ℕ, ◌+◌, ◌≤◌, List, ◌++◌, length, take, drop}
use Rattle.text.specs.declared.page.Page.{Page}

-- the bytes written so far
abbrev pub text_on : Page → List ℕ
text_on page = take page.written page.out.now

-- that many bytes more still fit
abbrev pub HasRoom : Page → ℕ → Type 0
HasRoom page count = page.written + count ≤ length page.out.now

-- the bytes were written behind the others, and nothing else changed
pub record Appends (old : Page) (bytes : List ℕ) (new : Page) : Type 0 where
  pub text : text_on new ≡ text_on old ++ bytes
  pub place : new.written ≡ old.written + length bytes
  pub size : length new.out.now ≡ length old.out.now
  pub rest : drop new.written new.out.now ≡ drop new.written old.out.now
  pub same : new.out.ghost_name ≡ old.out.ghost_name

-- more may have been written on the page, and nothing else changed
pub record Continues (old new : Page) : Type 0 where
  pub grows : old.written ≤ new.written
  pub size : length new.out.now ≡ length old.out.now
  pub rest : drop new.written new.out.now ≡ drop new.written old.out.now
  pub same : new.out.ghost_name ≡ old.out.ghost_name

-- What is printed for a line. Assumes nothing.
use Rattle.std.specs.Prelude.{ℕ, List, [], ◌∷◌, ◌++◌, codes, true, false, Result, Ok, Err}
use Rattle.std.specs.Fmt.{decimal}
use Rattle.model.specs.declared.call.Answer.{Answer}
use Rattle.model.specs.declared.call.Answer.TheVariants.{Done as Accepted, MayUse}
use Rattle.policy.specs.declared.refusal.Refusal.{Refusal}
use Rattle.policy.specs.Refusals.{refusal_text}
use Rattle.text.specs.declared.reply.Reply.{Reply}
use Rattle.text.specs.declared.reply.Reply.TheVariants.{Done, May, Bound, Never, Refused}

abbrev pub reply_text : Reply → List ℕ
reply_text Done = codes "ok"
reply_text (May true) = codes "may 1"
reply_text (May false) = codes "may 0"
reply_text (Bound code reached) = (codes "bound " ++ decimal code) ++ (codes " reached " ++ decimal reached)
reply_text (Never reached) = codes "never reached " ++ decimal reached
reply_text (Refused refusal) = refusal_text refusal

-- the reply with its line's end
abbrev pub reply_line : Reply → List ℕ
reply_line reply = reply_text reply ++ (10 ∷ [])

-- bytes enough for that line
abbrev pub reply_room : Reply → ℕ
reply_room (Refused _) = 11
reply_room _ = 44

-- the reply of a register that accepts a call
abbrev pub reply_to : Answer → Reply
reply_to Accepted = Done
reply_to (MayUse may) = May may

-- the reply, or the refusal as one
abbrev pub reply_or_refused : Result Reply Refusal → Reply
reply_or_refused (Ok reply) = reply
reply_or_refused (Err refusal) = Refused refusal

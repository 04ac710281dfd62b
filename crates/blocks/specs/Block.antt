-- The header block: lines up to the empty one, each header of which takes a slot.
-- The theorems stand in proofs/BlockRead.antt. Assumes nothing.
use Rattle.std.specs.Prelude.{ℕ, ◌*◌, ◌≤◌, ◌≡◌, List, [], ◌∷◌, ◌++◌, Bool, true, false, ◌&&◌, cond, ltb, length, Err, Ok}
use Rattle.reader.specs.Machine.{Step, run_at}
use Rattle.reader.specs.Judged.{Verdict, pass, fail, judged}
use Rattle.reader.specs.Seq.{first}
use Rattle.reader.specs.Loop.{Turn, again, done, loop}
use Rattle.reader.specs.Answer.{Answer, got, short, bad, answer, lapwise}
use Rattle.reader.specs.Chain.{reads}
use Rattle.reader.specs.Branch.{fresh}
use Rattle.gaps.specs.Gap.{Behind, blanks_if, behind_gap}
use Rattle.parts.specs.declared.Error.TheVariants.{TooManyHeaders}
use Rattle.parts.specs.declared.Fault.{Fault}
use Rattle.parts.specs.declared.Unread.TheVariants as unread
use Rattle.rules.specs.Rules.{Rules}
use Rattle.rules.specs.declared.LineSettings.{LineSettings}
use Rattle.rules.specs.Settings.{line_rules}
use Rattle.parts.specs.Answers.{Passed, fault}
use Rattle.fields.specs.declared.Header.{Header}
use Rattle.blocks.specs.declared.Block.{Block}
use Rattle.fields.specs.Line.{Kind, header, end, ignored, LineState, line_step}
use Rattle.blocks.specs.Slots.{filled}

-- what a line adds to the headers hs, with n slots
abbrev pub taken : ℕ → List Header → Kind → Verdict (Turn (List Header) (List Header)) (Fault × List Header)
taken n hs end = pass (done hs)
taken n hs ignored = pass (again hs)
taken n hs (header h) = cond (ltb (length hs) n) (pass (again (hs ++ (h ∷ [])))) (fail (fault TooManyHeaders h.name.offset, hs))

-- whether there is no header yet
abbrev pub none_yet : List Header → Bool
none_yet [] = true
none_yet (h ∷ hs) = false

-- the blanks that a setting lets stand before a line until there is one
abbrev pub blanks_before : Rules → List Header → ℕ → Bool
blanks_before r hs = blanks_if (r.space_before_first_name && none_yet hs)

-- a line behind them
abbrev pub next_line_step : Rules → List Header → Step (Behind LineState) Kind Fault
next_line_step r hs = behind_gap (blanks_before r hs) (line_step r) fresh

abbrev pub lap_step : Rules → ℕ → List Header → Step (Behind LineState) (Turn (List Header) (List Header)) (Fault × List Header)
lap_step r n hs = judged (taken n hs) (λ e. (e, hs)) (next_line_step r hs)

abbrev pub block_step : Rules → ℕ → Step (List Header × Behind LineState) (List Header) (Fault × List Header)
block_step r n = loop (λ _. first tt) (lap_step r n)

-- the headers that are complete are known at any time
abbrev pub Blocks : Type 0
Blocks = Answer (List Header) (List Header) (Fault × List Header)

-- what the block answers from a position on, with n slots and the headers hs before it
abbrev pub block : Rules → ℕ → List Header → List ℕ → ℕ → Blocks
block r n hs xs at = answer (lapwise (λ hs _. hs)) (run_at (block_step r n) (hs, first tt) xs at)

-- the line that is read from a position on, and the block from behind it
abbrev pub next_line : Rules → List Header → List ℕ → ℕ → Answer (Unit {0}) Kind Fault
next_line r hs xs p = reads (next_line_step r hs) (first tt) xs p

-- the headers that an answer has given
abbrev pub given : Blocks → List Header
given (got hs q) = hs
given (short hs) = hs
given (bad x) = x.1

-- the code's answer, with the headers hs in the slots
abbrev pub tell : Passed → List Header → Blocks
tell (Ok q) hs = got hs q
tell (Err unread.More) hs = short hs
tell (Err (unread.Bad e)) hs = bad (e, hs)

-- the code's answer, the count and the slots are what the reader says
pub record Told (a : Blocks) (r : Block) (old new : List ℕ) : Type 0 where
  pub answer : tell r.end (given a) ≡ a
  pub count : r.count ≡ length (given a)
  pub slots : new ≡ filled (given a) old

-- what the loop keeps: the headers so far are in the slots, which have room for n, and the block from i on is the rest of the whole
pub record Kept (settings : LineSettings) (n : ℕ) (xs old new : List ℕ) (at i count : ℕ) : Type 0 where
  pub hs : List Header
  pub size : length hs ≡ count
  pub room : count ≤ n
  pub same : block (line_rules settings) n [] xs at ≡ block (line_rules settings) n hs xs i
  pub full : new ≡ filled hs old
  pub fits : n * 4 ≤ length old
  pub long : length new ≡ length old

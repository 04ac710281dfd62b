-- What each call's answer means for every input s and all slots that are lent: in the grammar's words alone, and of an error where it lies.
-- Assumes nothing.
use Rattle.std.specs.Prelude.{ℕ, ◌+◌, ◌*◌, ◌/◌, ◌≤◌, ◌<◌, ◌≡◌, List, ◌∷◌, ◌++◌, true, false, length, take, drop, Err, Ok}
use Rattle.reader.specs.Answer.{Answer, got, short, bad}
use Rattle.octets.specs.Grammar.{IsBlank}
use Rattle.rules.specs.Rules.{Rules, default}
use Rattle.grammar.specs.Fields.{Field}
use Rattle.grammar.specs.Message.{IsLineEnd, IsFieldLine, IsHeaderBlock}
use Rattle.grammar.specs.Chunked.{IsChunkLine}
use Rattle.parts.specs.declared.Error.TheVariants.{TooManyHeaders}
use Rattle.parts.specs.declared.Fault.{Fault}
use Rattle.parts.specs.Answers.{Passed, fault}
use Rattle.parts.specs.declared.Unread.TheVariants.{More, Bad}
use Rattle.fields.specs.declared.Header.{Header}
use Rattle.heads.specs.Head.{Heads, Known}
use Rattle.chunks.specs.Chunk.{ChunkSize, chunk}
use Rattle.agreement.specs.Known.{fields_in, SlotsInside, AreFields}
use Rattle.agreement.specs.Colons.{SlotsToColon}

-- the first q bytes are a head, and what the call told and put into the slots are its fields
pub record HeadAt {L K : Type 0} (Head : List ℕ → L → List Field → Type 0) (Says : List ℕ → K → L → Type 0) (s : List ℕ) (q : ℕ) (line : K) (fields : List Field) : Type 0 where
  pub bytes : List ℕ
  pub rest : List ℕ
  pub said : L
  pub whole : s ≡ bytes ++ rest
  pub end : q ≡ length bytes
  pub head : Head bytes said fields
  pub says : Says s line said

-- Head is what the grammar with the rules r calls a head; Says is how the call tells a start line, and In what its places are held to; old
-- and new are the slots before and after, four numbers each
pub record HeadPromise {L K : Type 0} (r : Rules) (Head : List ℕ → L → List Field → Type 0) (Says : List ℕ → K → L → Type 0) (In : List ℕ → K → Type 0) (s old : List ℕ) (end : Passed) (line : K) (count : ℕ) (new : List ℕ) : Type 0 where
  -- nothing else is accepted: complete at q means that a head ends there, and that the places given hold its fields
  pub complete : (q : ℕ) → end ≡ Ok q → HeadAt Head Says s q line (fields_in s count new)
  -- what is allowed is accepted: a head whose fields fit the slots, whatever follows it
  pub accepts : (w t : List ℕ) (l : L) (fs : List Field) → s ≡ w ++ t → Head w l fs → length fs ≤ length old / 4 → (end ≡ Ok (length w)) × Says s line l × (fields_in s count new ≡ fs)
  -- a head with more fields than slots is TooManyHeaders, and the fields that fit are given
  pub too_many : (w t : List ℕ) (l : L) (fs : List Field) → s ≡ w ++ t → Head w l fs → length old / 4 < length fs → (p : ℕ) × (end ≡ Err (Bad (fault TooManyHeaders p))) × Says s line l × (fields_in s count new ≡ take (length old / 4) fs)
  -- an error means that no head that fits starts here, whatever bytes u follow
  pub error : (x : Fault) → end ≡ Err (Bad x) → (u w t : List ℕ) (l : L) (fs : List Field) → s ++ u ≡ w ++ t → Head w l fs → length fs ≤ length old / 4 → ⊥
  -- an error other than TooManyHeaders means that no head starts here at all
  pub error_at_all : (x : Fault) → end ≡ Err (Bad x) → (x.error ≡ TooManyHeaders → ⊥) → (u w t : List ℕ) (l : L) (fs : List Field) → s ++ u ≡ w ++ t → Head w l fs → ⊥
  -- TooManyHeaders means that the slots are full
  pub full : (x : Fault) → end ≡ Err (Bad x) → x.error ≡ TooManyHeaders → count ≡ length old / 4
  -- incomplete means that no head has ended yet
  pub incomplete : end ≡ Err More → (w t : List ℕ) (l : L) (fs : List Field) → s ≡ w ++ t → Head w l fs → ⊥
  -- whatever the answer is, every place that is told lies in the input, and what is told of a start line is such
  pub inside : In s line × SlotsInside (length s) count new
  -- and the fields in the slots have names that are names and values that are values
  pub fields : AreFields r (fields_in s count new)
  -- and from the end of each name to its colon stand spaces and tabs where they are allowed, and nothing else
  pub colons : SlotsToColon r.spaces_after_name s count new
  -- the count is within the slots, of which there are as many as before, and those behind it are as they were
  pub within : (count ≤ length old / 4) × (length new ≡ length old)
  pub untouched : drop (count * 4) new ≡ drop (count * 4) old

-- the bytes are not yet decided
abbrev pub Waits : {U A F : Type 0} → Answer U A F → Type 0
Waits {U} a = (u : U) × (a ≡ short u)

-- the bytes u behind a line's end show that the line is over: where values may go on over several lines, one is there and is no blank
abbrev pub LineOver : Rules → List ℕ → Type 0
LineOver r u = r.multiline_headers ≡ true → (b : ℕ) × (v : List ℕ) × (u ≡ b ∷ v) × (IsBlank b → ⊥)

-- The header at p is one too many for n slots. The bytes before it are incomplete and, with one more where values may go on over several
-- lines, fill them; so are they with any start of its line; with all of that line, and what shows that it is over, they are the error, and
-- what is told is what is told of s, whatever bytes u follow. And a header's line begins at p, and nowhere within: with an empty line in
-- place of it the bytes before it are all of a head, with these headers.
pub record OneTooMany {K : Type 0} (r : Rules) (n : ℕ) (read : List ℕ → Heads K) (s : List ℕ) (p : ℕ) : Type 0 where
  pub line : List ℕ
  pub end : List ℕ
  pub rest : List ℕ
  pub field : Field
  pub whole : s ≡ take p s ++ ((line ++ end) ++ rest)
  pub is_line : IsFieldLine r line field
  pub is_end : IsLineEnd r end
  pub is_over : LineOver r rest
  pub known : K
  pub headers : List Header
  pub told : read s ≡ bad (fault TooManyHeaders p, (known, headers))
  pub full : length headers ≡ n
  pub waits : (k : ℕ) → (k ≡ 0 → r.multiline_headers ≡ false) → k < length (line ++ end) → read (take (p + k) s) ≡ short (known, headers)
  pub undecided : r.multiline_headers ≡ true → read (take p s ++ (line ++ end)) ≡ short (known, headers)
  pub decides : (u : List ℕ) → LineOver r u → read (take p s ++ ((line ++ end) ++ u)) ≡ read s
  pub begins : (e : List ℕ) → IsLineEnd r e → read (take p s ++ e) ≡ got (known, headers) (p + length e)

-- what is true of the position of an error
pub record FaultAt {K : Type 0} (r : Rules) (n : ℕ) (read : List ℕ → Heads K) (s : List ℕ) (x : Fault) : Type 0 where
  -- x is what is read on s
  pub is : (k : Known K) × (read s ≡ bad (x, k))
  -- its position lies within the input
  pub within : x.position < length s
  -- the bytes before it, or fewer, are incomplete
  pub before : (k : ℕ) → k ≤ x.position → Waits (read (take k s))
  -- any error but TooManyHeaders: with the byte at it they are this error, with all that is told of s, whatever bytes u follow
  pub there : (x.error ≡ TooManyHeaders → ⊥) → (u : List ℕ) → read (take (x.position + 1) s ++ u) ≡ read s
  -- TooManyHeaders: the header at it is one too many
  pub too_many : x.error ≡ TooManyHeaders → OneTooMany r n read s x.position

-- a call that ends in an error tells its position, where read is what the call answers by its reader with n slots
pub record FaultPromise {K : Type 0} (r : Rules) (n : ℕ) (read : List ℕ → Heads K) (s : List ℕ) (end : Passed) : Type 0 where
  pub placed : (x : Fault) → end ≡ Err (Bad x) → FaultAt r n read s x

-- headers alone have no start line
abbrev pub BlockAlone : List ℕ → Unit {0} → List Field → Type 0
BlockAlone w l fs = IsHeaderBlock default true w fs

abbrev pub SaysNothing : List ℕ → Unit {0} → Unit {0} → Type 0
SaysNothing s k l = Unit {0}

abbrev pub LiesNowhere : List ℕ → Unit {0} → Type 0
LiesNowhere s k = Unit {0}

-- the same of a chunk size line
pub record ChunkPromise (s : List ℕ) (r : ChunkSize) : Type 0 where
  -- complete at q with size n means that such a line ends there
  pub complete : (q n : ℕ) → r ≡ Ok (n, q) → (w t : List ℕ) × (s ≡ w ++ t) × (q ≡ length w) × IsChunkLine default w n
  -- every such line is accepted, whatever follows it
  pub accepts : (w t : List ℕ) (n : ℕ) → s ≡ w ++ t → IsChunkLine default w n → r ≡ Ok (n, length w)
  -- an error means that none starts here, whatever bytes u follow
  pub error : (p : ℕ) → r ≡ Err (Bad p) → (u w t : List ℕ) (n : ℕ) → s ++ u ≡ w ++ t → IsChunkLine default w n → ⊥
  -- incomplete means that none has ended yet
  pub incomplete : r ≡ Err More → (w t : List ℕ) (n : ℕ) → s ≡ w ++ t → IsChunkLine default w n → ⊥

-- and of its error's position
pub record SizeFaultAt (s : List ℕ) (p : ℕ) : Type 0 where
  pub within : p < length s
  pub before : (k : ℕ) → k ≤ p → chunk default (take k s) ≡ short tt
  pub there : (u : List ℕ) → chunk default (take (p + 1) s ++ u) ≡ bad p

pub record SizeFaultPromise (s : List ℕ) (r : ChunkSize) : Type 0 where
  pub placed : (p : ℕ) → r ≡ Err (Bad p) → SizeFaultAt s p

-- A reader of heads with n slots, against what the grammar calls a head: the laws from which the promises follow.
-- The theorems stand in proofs/Exactly.antt. Assumes nothing.
use Rattle.std.specs.Prelude.{ℕ, ◌≤◌, ◌<◌, ◌≡◌, List, ◌++◌, length, take}
use Rattle.reader.specs.Machine.{Step}
use Rattle.reader.specs.Answer.{got, bad}
use Rattle.reader.specs.Refusals.{Refuses}
use Rattle.reader.specs.Known.{known_of}
use Rattle.exact.specs.Exact.{Relation, Exact}
use Rattle.rules.specs.Rules.{Rules}
use Rattle.grammar.specs.Fields.{Field}
use Rattle.grammar.specs.Message.{IsEmptyLines, IsLineEnd}
use Rattle.parts.specs.declared.Error.TheVariants.{TooManyHeaders}
use Rattle.parts.specs.declared.Fault.{Fault}
use Rattle.parts.specs.Answers.{fault}
use Rattle.fields.specs.declared.Header.{Header}
use Rattle.heads.specs.Head.{Heads, Known, given}
use Rattle.heads.specs.Head as heads
use Rattle.agreement.specs.Places.{At}
use Rattle.agreement.specs.Fields.{HeaderIs, fields_of, Each}
use Rattle.agreement.specs.Colons.{HeaderToColon}
use Rattle.agreement.specs.FieldLine.{HeaderIn}
use Rattle.agreement.specs.Full.{LocatedLine}
use Rattle.agreement.specs.Steps.{Started, LineRead}

module _ {L K : Type 0} (Head : List ℕ → L → List Field → Type 0) (Says : List ℕ → K → L → Type 0) (n : ℕ) where
  -- the first q bytes of z are a head, and k and hs say what it says
  pub record Found (z : List ℕ) (k : K) (hs : List Header) (q : ℕ) : Type 0 where
    pub w : List ℕ
    pub rest : List ℕ
    pub l : L
    pub whole : z ≡ w ++ rest
    pub place : q ≡ length w
    pub head : Head w l (fields_of z hs)
    pub says : Says z k l
    pub fits : length hs ≤ n

  -- the answer a is of this form, and tells l and fs
  pub record Tells (z : List ℕ) (l : L) (fs : List Field) (a : K → List Header → Heads K) (b : Heads K) : Type 0 where
    pub k : K
    pub hs : List Header
    pub says : Says z k l
    pub holds : fields_of z hs ≡ fs
    pub answers : b ≡ a k hs

  pub record Exactly (read : List ℕ → Heads K) : Type 0 where
    pub sound : (z : List ℕ) (k : K) (hs : List Header) (q : ℕ) → read z ≡ got (k, hs) q → Found z k hs q
    pub complete : (w rest : List ℕ) (l : L) (fs : List Field) → Head w l fs → length fs ≤ n → Tells (w ++ rest) l fs (λ k hs. got (k, hs) (length w)) (read (w ++ rest))
    pub too_many : (w rest : List ℕ) (l : L) (fs : List Field) → Head w l fs → n < length fs → (c : ℕ) × Tells (w ++ rest) l (take n fs) (λ k hs. bad (fault TooManyHeaders c, (k, hs))) (read (w ++ rest))
    pub few : (z : List ℕ) → length (given (read z)) ≤ n
    pub full : (z : List ℕ) (x : Fault × Known K) → read z ≡ bad x → x.0.error ≡ TooManyHeaders → n ≤ length x.1.1
    pub stays : (s u : List ℕ) (x : Fault × Known K) → read s ≡ bad x → read (s ++ u) ≡ bad x

-- every place that a reader tells lies in the input, whatever it answers
pub record Lies {K : Type 0} (r : Rules) (In : List ℕ → K → Type 0) (read : List ℕ → Heads K) : Type 0 where
  pub line : (z : List ℕ) → In z (known_of (read z)).0
  pub fields : (z : List ℕ) → Each (HeaderIn (length z)) (given (read z))
  pub are : (z : List ℕ) → Each (HeaderIs z r) (given (read z))
  pub colons : (z : List ℕ) → Each (HeaderToColon z r) (given (read z))

module _ (r : Rules) (n : ℕ) {L K S : Type 0} (m : Step S K (Fault × K)) (known : S → K) (s : S) {G : Relation K} (M : Exact m s G) (ordinary : Refuses LocatedLine m)
    (start_line : List ℕ → L → Type 0) (Says : List ℕ → K → L → Type 0)
    (derived : (z w rest : List ℕ) (k : K) → At z 0 w rest → G 0 w k rest → Started r start_line (Says z k) w)
    (reads : (z e l c rest : List ℕ) (g : L) → At z 0 (e ++ l ++ c) rest → IsEmptyLines r e → start_line l g → IsLineEnd r c → LineRead Says G z 0 (e ++ l ++ c) g rest) where
  abbrev pub read : List ℕ → Heads K
  read z = heads.head r n m known s z

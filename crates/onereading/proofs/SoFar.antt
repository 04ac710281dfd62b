-- What is told before the end of a head is true of every head that the bytes may still become: a call on all of it tells no less.
-- Assumes nothing.
use Rattle.std.specs.Prelude.{ℕ, zero, suc, ◌+◌, ◌*◌, ◌/◌, ◌≤◌, ◌<◌, ◌≡◌, refl, List, [], ◌∷◌, ◌++◌, Bool, true, false, ltb, length, take, drop, get_or, Err, None, Ok, Option, Some}
use Rattle.std.proofs.Common.{arith, sym, ap, subst, ◌∙◌, append_assoc, append-nil, length-drop, take-append-drop, get_or-take, get_or-drop, ltb-true, ltb-false}
use Rattle.std.proofs.lemmas.List.{take-append-le, drop-append-le}
use Rattle.reader.specs.Answer.{got, short, bad}
use Rattle.rules.specs.Rules.{Rules, default}
use Rattle.grammar.specs.Rows.{Many}
use Rattle.grammar.specs.Fields.{Field}
use Rattle.grammar.specs.Message.{IsRequestHead, IsResponseHead}
use Rattle.grammar.specs.Message as grammar
use Rattle.parts.specs.declared.Piece.{Piece}
use Rattle.parts.specs.declared.Unread.TheVariants.{More, Bad}
use Rattle.parts.specs.Answers.{Passed}
use Rattle.requestline.specs.declared.RequestLine.{RequestLine}
use Rattle.statusline.specs.declared.StatusLine.{StatusLine}
use Rattle.blocks.specs.declared.Block.{Block}
use Rattle.blocks.specs.Slots.{filled}
use Rattle.blocks.specs.Block.{block}
use Rattle.blocks.specs.Block as blocks
use Rattle.heads.specs.Head.{Heads, Told}
use Rattle.heads.specs.Calls.{request, response}
use Rattle.agreement.specs.Known.{Holds, Counts, Inside, fields_in, SlotsInside}
use Rattle.agreement.specs.Promises.{HeadPromise, BlockAlone, SaysNothing}
use Rattle.agreement.specs.Starts.{Fixed}
use Rattle.agreement.proofs.Calls.{request_promise, response_promise, headers_promise}
use Rattle.onereading.specs.Statements.{SamePiece, SameNumber, HeadStays, SoFar, PieceAgrees, NumberAgrees, RequestAgrees, StatusAgrees}
use Rattle.onereading.proofs.Stays.{request_stays, response_stays, headers_stays}

-- what a place holds does not change as bytes arrive behind it
module _ (s u : List ℕ) where
  held_still : (offset size : ℕ) → offset + size ≤ length s → take size (drop offset (s ++ u)) ≡ take size (drop offset s)
  held_still offset size h = ap (take size) (drop-append-le offset s u (omega (arith, h))) ∙ take-append-le size (drop offset s) u (omega (arith, h, length-drop offset s))

  fields_still : (count : ℕ) (slots : List ℕ) → SlotsInside (length s) count slots → fields_in (s ++ u) count slots ≡ fields_in s count slots
  fields_still zero slots h = refl
  fields_still (suc count) slots h =
      rw (held_still (get_or slots 0 0) (get_or slots 1 0) h.0, held_still (get_or slots 2 0) (get_or slots 3 0) h.1, fields_still count (drop 4 slots) h.2)

-- the fields are those of the numbers in the slots
fields_same : (z : List ℕ) (count : ℕ) (a b : List ℕ) → ((i : ℕ) → i < count * 4 → get_or a i 0 ≡ get_or b i 0) → fields_in z count a ≡ fields_in z count b
fields_same z zero a b h = refl
fields_same z (suc count) a b h =
    let rest = fields_same z count (drop 4 a) (drop 4 b) (λ i l. get_or-drop 4 a i 0 ∙ h (4 + i) (omega (arith, l)) ∙ sym (get_or-drop 4 b i 0)) in
    rw (h 0 (omega arith), h 1 (omega arith), h 2 (omega arith), h 3 (omega arith), rest)

slots_fields : (z : List ℕ) (count : ℕ) (a b : List ℕ) → take (count * 4) a ≡ take (count * 4) b → fields_in z count a ≡ fields_in z count b
slots_fields z count a b e = fields_same z count a b (λ i l. sym (get_or-take (count * 4) a i 0 l) ∙ ap (λ y. get_or y i 0) e ∙ get_or-take (count * 4) b i 0 l)

first_fields : (z : List ℕ) (count more : ℕ) (slots : List ℕ) → count ≤ more → (rest : List Field) × (fields_in z more slots ≡ fields_in z count slots ++ rest)
first_fields z zero more slots h = (fields_in z more slots, refl)
first_fields z (suc count) zero slots h = absurd (omega (arith, h))
first_fields z (suc count) (suc more) slots h =
    let r = first_fields z count more (drop 4 slots) (omega (arith, h)) in
    (r.0, ap (λ y. record { name = take (get_or slots 1 0) (drop (get_or slots 0 0) z); value = take (get_or slots 3 0) (drop (get_or slots 2 0) z) } ∷ y) r.1)

-- a call whose reader answers a
record Virtual {K : Type 0} (a : Heads K) (old : List ℕ) : Type 0 where
  end : Passed
  line : K
  count : ℕ
  new : List ℕ
  told : Told a end line count old new

virtual : {K : Type 0} (a : Heads K) (old : List ℕ) → Virtual a old
virtual (got k q) old = record { end = Ok q; line = k.0; count = length k.1; new = filled k.1 old; told = record { answer = refl; count_is = refl; slots = refl } }
virtual (short k) old = record { end = Err More; line = k.0; count = length k.1; new = filled k.1 old; told = record { answer = refl; count_is = refl; slots = refl } }
virtual (bad x) old = record { end = Err (Bad x.0); line = x.1.0; count = length x.1.1; new = filled x.1.1 old; told = record { answer = refl; count_is = refl; slots = refl } }

module _ {L K : Type 0} {Head : List ℕ → L → List Field → Type 0} {Says : List ℕ → K → L → Type 0} {r : Rules} {In : List ℕ → K → Type 0} {Same : K → K → Type 0} (Agrees : List ℕ → K → L → Type 0)
    (agrees : (s u : List ℕ) (k k' : K) (l : L) → In s k → Same k k' → Says (s ++ u) k' l → Agrees s k l) where
  -- a call on s, and one on s with u behind it
  module _ (s u : List ℕ) {old : List ℕ} {end end' : Passed} {line line' : K} {count count' : ℕ} {new new' : List ℕ} (P : HeadPromise r Head Says In s old end line count new) (Q : HeadPromise r Head Says In (s ++ u) old end' line' count' new') (S : HeadStays Same end end' line line' count count' old new new') where
    shown : (fs : List Field) (l : L) → Says (s ++ u) line' l → (rest : List Field) → fields_in (s ++ u) count' new' ++ rest ≡ fs → Agrees s line l × ((more : List Field) × (fs ≡ fields_in s count new ++ more))
    shown fs l h rest e =
        let f = first_fields (s ++ u) count count' new' S.headers.0 in
        let g : fields_in (s ++ u) count new' ≡ fields_in s count new = slots_fields (s ++ u) count new' new S.headers.1 ∙ fields_still s u count new P.inside.1 in
        (agrees s u line line' l P.inside.0 S.known h, (f.0 ++ rest, sym e ∙ ap (λ y. y ++ rest) (f.1 ∙ ap (λ y. y ++ f.0) g) ∙ append_assoc (fields_in s count new) f.0 rest))

    so_far_by : (w t : List ℕ) (l : L) (fs : List Field) → s ++ u ≡ w ++ t → Head w l fs → Agrees s line l × ((more : List Field) × (fs ≡ fields_in s count new ++ more))
    so_far_by w t l fs e h = by (ltb (length old / 4) (length fs)) refl
      where
        by : (b : Bool) → ltb (length old / 4) (length fs) ≡ b → Agrees s line l × ((more : List Field) × (fs ≡ fields_in s count new ++ more))
        by false f = let A = Q.accepts w t l fs e h (ltb-false (length old / 4) (length fs) f) in shown fs l A.1 [] (append-nil (fields_in (s ++ u) count' new') ∙ A.2)
        by true f = let A = Q.too_many w t l fs e h (ltb-true (length old / 4) (length fs) f) in shown fs l A.2 (drop (length old / 4) fs) (ap (λ y. y ++ drop (length old / 4) fs) A.3 ∙ take-append-drop (length old / 4) fs)

piece_agrees : (Such : List ℕ → Type 0) (s u : List ℕ) (a b : Option Piece) (w : List ℕ) → Inside Such s a → SamePiece a b → Holds (s ++ u) b w → PieceAgrees s a w
piece_agrees Such s u (Some a) b w i e h = sym (held_still s u a.offset a.length i.0) ∙ subst (λ y. Holds (s ++ u) y w) e h
piece_agrees Such s u None b w i e h = tt

number_agrees : (a b : Option ℕ) (n : ℕ) → SameNumber a b → Counts b n → NumberAgrees a n
number_agrees (Some a) b n e h = subst (λ y. Counts y n) e h
number_agrees None b n e h = tt

module _ {r : Rules} (fixed : Fixed r) {s old : List ℕ} {end : Passed} {count : ℕ} {new : List ℕ} where
  pub request_so_far : {line : RequestLine} → Told (request r (length old / 4) s) end line count old new → SoFar (IsRequestHead r) RequestAgrees s line count new
  request_so_far T u =
      let all = virtual (request r (length old / 4) (s ++ u)) old in
      so_far_by RequestAgrees
      (λ s u k k' l i e h. record {
        method = piece_agrees grammar.IsMethod s u k.method k'.method l.method i.method e.method h.method;
        target = piece_agrees (grammar.IsRequestTarget r) s u k.target k'.target l.target i.target e.target h.target;
        version = number_agrees k.version k'.version l.version.minor e.version h.version;
      })
      s u (request_promise fixed T) (request_promise fixed all.told) (request_stays r (length old / 4) s u T all.told)

  pub response_so_far : {line : StatusLine} → Told (response r (length old / 4) s) end line count old new → SoFar (IsResponseHead r) StatusAgrees s line count new
  response_so_far T u =
      let all = virtual (response r (length old / 4) (s ++ u)) old in
      so_far_by StatusAgrees
      (λ s u k k' l i e h. record {
        version = number_agrees k.version k'.version l.version.minor e.version h.version;
        code = number_agrees k.code k'.code l.code e.code h.code;
        reason = piece_agrees (Many grammar.IsAsciiText) s u k.reason k'.reason l.reason i.reason e.reason h.reason;
      })
      s u (response_promise fixed T) (response_promise fixed all.told) (response_stays r (length old / 4) s u T all.told)

-- headers alone: a block that its reader answers
virtual_block : (b : blocks.Blocks) (old : List ℕ) → (r : Block) × (new : List ℕ) × blocks.Told b r old new
virtual_block (got hs q) old = (record { end = Ok q; count = length hs }, filled hs old, record { answer = refl; count = refl; slots = refl })
virtual_block (short hs) old = (record { end = Err More; count = length hs }, filled hs old, record { answer = refl; count = refl; slots = refl })
virtual_block (bad x) old = (record { end = Err (Bad x.0); count = length x.1 }, filled x.1 old, record { answer = refl; count = refl; slots = refl })

pub headers_so_far : (s : List ℕ) {old : List ℕ} {r : Block} {new : List ℕ} → blocks.Told (block default (length old / 4) [] s 0) r old new → SoFar BlockAlone SaysNothing s tt r.count new
headers_so_far s {old} T u =
    let all = virtual_block (block default (length old / 4) [] (s ++ u) 0) old in
    so_far_by SaysNothing (λ s u k k' l i e h. tt) s u (headers_promise T) (headers_promise all.2) (headers_stays (length old / 4) s u T all.2)

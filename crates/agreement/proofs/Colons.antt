-- Between the name of each header that is given and its colon stand spaces and tabs where they are allowed, and nothing else.
-- Assumes nothing.
use Rattle.std.specs.Prelude.{ℕ, zero, suc, ◌+◌, ◌*◌, ◌<◌, ◌≡◌, refl, List, [], ◌∷◌, ◌++◌, Bool, true, false, length, drop, get_or}
use Rattle.std.proofs.Common.{arith, sym, ap, subst, ◌∙◌}
use Rattle.reader.specs.Answer.{Answer, got, short, bad, and}
use Rattle.reader.specs.Chain.{ended, reads}
use Rattle.reader.specs.Tests.{never}
use Rattle.rules.specs.Rules.{Rules}
use Rattle.parts.specs.declared.Error.TheVariants.{NewLine}
use Rattle.parts.specs.declared.Fault.{Fault}
use Rattle.parts.specs.declared.Piece.{Piece}
use Rattle.parts.specs.LineEnd.{line_end}
use Rattle.names.specs.Name.{name}
use Rattle.names.specs.Colon.{NameToColon}
use Rattle.names.proofs.ToColon.{colon_at_once, name_to_colon}
use Rattle.folds.specs.Folded.{value_lines}
use Rattle.ignored.specs.Rest.{rest_step, seen}
use Rattle.fields.specs.declared.Header.{Header}
use Rattle.fields.specs.Line.{Kind, header, named, end, ignored, ends, line, onward, field}
use Rattle.fields.proofs.LineRead.{field_parts, line_end_parts, tried_got, tried_short, tried_off, tried_on}
use Rattle.blocks.specs.Block.{block, given}
use Rattle.blocks.specs.Slots.{flat, filled}
use Rattle.agreement.specs.Fields.{Each, each_more, header_same, line_within, given_all}
use Rattle.agreement.specs.Colons.{HeaderToColon, SlotsAtOnce, SlotsToColon}

-- a line that ends a block gives no header, nor does one that is passed over
never_ended : {h : Header} {q : ℕ} (a : Answer (Unit {0}) (Unit {0}) Fault) → ended end a ≡ got (header h) q → ⊥
never_ended (got u q) e = never cc
never_ended (short u) e = never cc
never_ended (bad x) e = never cc

never_ignored : {h : Header} {q : ℕ} (a : Answer (Unit {0}) (Unit {0}) Fault) → ended ignored a ≡ got (header h) q → ⊥
never_ignored (got u q) e = never cc
never_ignored (short u) e = never cc
never_ignored (bad x) e = never cc

-- the name of a header is the one that was read
kept_name : {h : Header} {q : ℕ} (n : Piece) (a : Answer (Unit {0}) Piece Fault) → and a (λ v i. got (named n v) i) ≡ got (header h) q → n ≡ h.name
kept_name {h} n (got v i) e = let same : named n v ≡ header h = cc in ap (λ (y : Header). y.name) (header_same same)
kept_name n (short u) e = never cc
kept_name n (bad x) e = never cc

module _ (z : List ℕ) (r : Rules) (n : ℕ) where
  name_kept : (h : Header) (p q : ℕ) (a : Answer (Unit {0}) Piece Fault) → name r z p ≡ a → and a (onward r z) ≡ got (header h) q → HeaderToColon z r h
  name_kept h p q (got a i) g e = subst (NameToColon r.spaces_after_name z) (kept_name a (value_lines r z i) e) (name_to_colon r z p a i g)
  name_kept h p q (short u) g e = never cc
  name_kept h p q (bad x) g e = never cc

  -- a header's line is a field line that is read to its end
  read_to_end : (p q : ℕ) (h : Header) → p < length z → ends r (get_or z p 0) ≡ false → line r z p ≡ got (header h) q → field r z p ≡ got (header h) q
  read_to_end p q h i c e = by (field r z p) refl r.ignore_invalid_headers refl
    where
      by : (a : Answer (Unit {0}) Kind Fault) → field r z p ≡ a → (o : Bool) → r.ignore_invalid_headers ≡ o → a ≡ got (header h) q
      by (got k j) u o t = sym (tried_got r z p i c u) ∙ e
      by (short v) u o t = let w = sym (tried_short r z p i c u) ∙ e in never cc
      by (bad x) u false t = let w = sym (tried_off r z p i c t u) ∙ e in never cc
      by (bad x) u true t = absurd (never_ignored (reads (rest_step r x.error) (seen z p x.position) z x.position) (sym (tried_on r z p i c t u) ∙ e))

  header_to_colon : (p q : ℕ) (h : Header) → line r z p ≡ got (header h) q → HeaderToColon z r h
  header_to_colon p q h e = by (ends r (get_or z p 0)) refl
    where
      inside : p < length z
      inside = let k = line_within z r n p q (header h) e in omega (arith, k.0, k.1)

      by : (t : Bool) → ends r (get_or z p 0) ≡ t → HeaderToColon z r h
      by true c = absurd (never_ended (line_end r NewLine z p) (sym (line_end_parts r z p inside c) ∙ e))
      by false c = name_kept h p q (name r z p) refl (sym (field_parts r z p) ∙ read_to_end p q h inside c e)

  pub fields_to_colon : (hs : List Header) (p : ℕ) → Each (HeaderToColon z r) hs → Each (HeaderToColon z r) (given (block r n hs z p))
  fields_to_colon = given_all z r n (Each (HeaderToColon z r)) (λ hs h p q e l f. each_more (HeaderToColon z r) hs h f (header_to_colon p q h e))

flat_to_colon : (z : List ℕ) (r : Rules) (hs : List Header) (old : List ℕ) → Each (HeaderToColon z r) hs → SlotsToColon r.spaces_after_name z (length hs) (flat hs ++ old)
unfolding flat
flat_to_colon z r [] old k = tt
flat_to_colon z r (h ∷ hs) old k = (k.0, flat_to_colon z r hs old k.1)

pub slots_to_colon : (z : List ℕ) (r : Rules) (hs : List Header) (old : List ℕ) → Each (HeaderToColon z r) hs → SlotsToColon r.spaces_after_name z (length hs) (filled hs old)
unfolding filled
slots_to_colon z r hs old k = flat_to_colon z r hs (drop (length hs * 4) old) k

-- where no blanks are allowed there are none
pub slots_at_once : (z : List ℕ) (count : ℕ) (slots : List ℕ) → SlotsToColon false z count slots → SlotsAtOnce z count slots
slots_at_once z zero slots k = tt
slots_at_once z (suc count) slots (n, k) =
    let e : n.to_colon.colon ≡ get_or slots 0 0 + get_or slots 1 0 = colon_at_once n.to_colon in
    (subst (λ y. y < length z) e n.to_colon.inside, subst (λ y. get_or z y 0 ≡ 0x3A) e n.to_colon.there, slots_at_once z count (drop 4 slots) k)

-- What may stand behind a chunk's digits with every leniency on: blanks, or blanks, a semicolon and any bytes but CR. The grammar has it
-- exactly so.
-- Assumes nothing.
use Rattle.std.specs.Prelude.{ℕ, ◌≡◌, refl, List, [], ◌∷◌, ◌++◌, false, eqb}
use Rattle.std.proofs.Common.{arith, sym, subst, append_assoc}
use Rattle.std.proofs.lemmas.Bool.{eqb-false}
use Rattle.octets.specs.Grammar.{IsBlank, IsTchar, IsText}
use Rattle.octets.specs.Class.{is_blank, is_token, is_value}
use Rattle.octets.proofs.Ties.{blank_is_blank, token_is_tchar, value_is_text}
use Rattle.octets.specs.Outside.{differs, cr_no_blank, cr_no_token, cr_no_value}
use Rattle.rules.specs.Rules.{default}
use Rattle.grammar.specs.Rows.{Many, none, more, Some, some}
use Rattle.grammar.specs.Fields.{OWS, IsQdtext, IsQuoted, IsQuotedString}
use Rattle.grammar.specs.Fields as fields
use Rattle.grammar.specs.Chunked.{semicolon, equals, IsChunkExtVal, IsChunkExt, IsBehindSize}
use Rattle.grammar.specs.Chunked as grammar
use Rattle.agreement.specs.Rows.{many_as, many_append}

abbrev pub NoCR : ℕ → Type 0
NoCR b = b ≡ 0x0D → ⊥

pub data Loose : List ℕ → Type 0 where
  blank_only : {o : List ℕ} → OWS o → Loose o
  extended : {o w : List ℕ} → OWS o → Many NoCR w → Loose (o ++ semicolon ++ w)

pub loose_derived : {x : List ℕ} → Loose x → IsBehindSize default x
loose_derived (blank_only o) = grammar.IsBehindSize.blanks refl o
loose_derived (extended o w) = grammar.IsBehindSize.any refl o w

pub blank_before : {b : ℕ} {x : List ℕ} → IsBlank b → Loose x → Loose (b ∷ x)
blank_before h (blank_only o) = blank_only (more h o)
blank_before h (extended o w) = extended (more h o) w

-- no byte of an extension is a CR
no_cr_blank : (b : ℕ) → IsBlank b → NoCR b
no_cr_blank b h = differs is_blank cr_no_blank ((blank_is_blank b).1 h)

no_cr_text : (b : ℕ) → IsText b → NoCR b
no_cr_text b h = differs is_value cr_no_value ((value_is_text b).1 h)

no_cr_token : (b : ℕ) → IsTchar b → NoCR b
no_cr_token b h = differs is_token cr_no_token ((token_is_tchar b).1 h)

no_cr_quoted : (b : ℕ) → IsQdtext b → NoCR b
no_cr_quoted b (fields.IsQdtext.tab h) e = omega (arith, h, e)
no_cr_quoted b (fields.IsQdtext.space h) e = omega (arith, h, e)
no_cr_quoted b (fields.IsQdtext.exclamation_mark h) e = omega (arith, h.low, e)
no_cr_quoted b (fields.IsQdtext.before_backslash h) e = omega (arith, h.low, e)
no_cr_quoted b (fields.IsQdtext.behind_backslash h) e = omega (arith, h.low, e)
no_cr_quoted b (fields.IsQdtext.obsolete h) e = omega (arith, h.low, e)

literal : (b : ℕ) → eqb b 13 ≡ false → NoCR b
literal b t = eqb-false b 13 t

one : (b : ℕ) → eqb b 13 ≡ false → Many NoCR (b ∷ [])
one b t = more (literal b t) none

tokens : {w : List ℕ} → Some IsTchar w → Many NoCR w
tokens (some {b = b} x k) = more (no_cr_token b x) (many_as no_cr_token k)

quotes : {w : List ℕ} → IsQuoted w → Many NoCR w
quotes fields.IsQuoted.none = none
quotes (fields.IsQuoted.unescaped {b = b} x k) = more (no_cr_quoted b x) (quotes k)
quotes (fields.IsQuoted.escaped (fields.IsQuotedPair.pair {b = b} x) k) = more (literal 0x5C refl) (more (no_cr_text b x) (quotes k))

values : {w : List ℕ} → IsChunkExtVal w → Many NoCR w
values (grammar.IsChunkExtVal.word k) = tokens k
values (grammar.IsChunkExtVal.string (fields.IsQuotedString.marks k)) = many_append (more (literal 0x22 refl) (quotes k)) (one 0x22 refl)

blank_row : {w : List ℕ} → OWS w → Many NoCR w
blank_row k = many_as no_cr_blank k

extensions : {w : List ℕ} → IsChunkExt w → Many NoCR w
extensions grammar.IsChunkExt.none = none
extensions (grammar.IsChunkExt.name a b n x) = many_append (many_append (many_append (many_append (blank_row a) (one 0x3B refl)) (blank_row b)) (tokens n)) (extensions x)
extensions (grammar.IsChunkExt.value a b n c d v x) =
    many_append (many_append (many_append (many_append (many_append (many_append (many_append (many_append (blank_row a) (one 0x3B refl)) (blank_row b)) (tokens n)) (blank_row c)) (one 0x3D refl)) (blank_row d)) (values v)) (extensions x)

loosened : {o w x : List ℕ} → x ≡ o ++ semicolon ++ w → OWS o → Many NoCR w → Loose x
loosened e o w = subst Loose (sym e) (extended o w)

loose_extension : {x : List ℕ} → IsChunkExt x → Loose x
loose_extension grammar.IsChunkExt.none = blank_only none
loose_extension (grammar.IsChunkExt.name {a = a} {b = b} {n = n} {x = x} k l m y) =
    loosened {o = a} {w = b ++ n ++ x} (simp append_assoc) k (many_append (many_append (blank_row l) (tokens m)) (extensions y))
loose_extension (grammar.IsChunkExt.value {a = a} {b = b} {n = n} {c = c} {d = d} {v = v} {x = x} k l m i j u y) =
    loosened {o = a} {w = b ++ n ++ c ++ equals ++ d ++ v ++ x} (simp append_assoc) k
    (many_append (many_append (many_append (many_append (many_append (many_append (blank_row l) (tokens m)) (blank_row i)) (one 0x3D refl)) (blank_row j)) (values u)) (extensions y))

pub loose_read : {x : List ℕ} → IsBehindSize default x → Loose x
loose_read (grammar.IsBehindSize.extension k) = loose_extension k
loose_read (grammar.IsBehindSize.blanks t o) = blank_only o
loose_read (grammar.IsBehindSize.any t o w) = extended o w

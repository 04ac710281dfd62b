-- A NUL in a line that is passed over, or a CR without LF, is an error after all: that of a name where the line was wrong before its colon, and of a value behind it.
-- Assumes nothing.
use Rattle.std.specs.Prelude.{ℕ, suc, ◌+◌, ◌≡◌, refl, List, [], ◌∷◌, ◌++◌, true, false, length}
use Rattle.std.proofs.Common.{arith, sym, ap, ◌∙◌, ne_eqb}
use Rattle.std.proofs.Math.Bool.{and-false}
use Rattle.reader.specs.Machine.{refused, run}
use Rattle.reader.specs.Lifted.{ran}
use Rattle.reader.specs.Seq.{first}
use Rattle.reader.specs.Rescued.{rescuing}
use Rattle.reader.proofs.Rescued.{run_rescued}
use Rattle.reader.specs.Branch.{fresh, other}
use Rattle.reader.proofs.Branch.{run_fresh_other}
use Rattle.reader.specs.Judged.{pass, judged}
use Rattle.reader.specs.Answer.{bad, answer}
use Rattle.reader.specs.Chain.{nothing}
use Rattle.rules.specs.Rules.{Rules}
use Rattle.grammar.specs.Rows.{Many, none, more, some}
use Rattle.grammar.specs.Message.{IsIgnorable}
use Rattle.parts.specs.declared.Error.TheVariants.{NewLine}
use Rattle.parts.specs.declared.Fault.{Fault}
use Rattle.parts.specs.Answers.{fault}
use Rattle.parts.specs.LineEnd.{begin, line_end_step}
use Rattle.ignored.specs.Rest.{behind_byte}
use Rattle.ignored.proofs.RestOfLine.{nul_stops, cr_stops}
use Rattle.names.specs.Name as names
use Rattle.octets.proofs.Ties.{token_is_tchar}
use Rattle.fields.specs.Wrong.{blamed}
use Rattle.fields.specs.Line.{end, field_step, TriedState, ignored_step, tried_step, untried, ends, line_step, line}
use Rattle.agreement.specs.Places.{At, from_at}
use Rattle.agreement.specs.IgnoredLine.{token_no_end, ignorable_no_end, in_ignorable}
use Rattle.agreement.specs.Wrong.{LineWrongIs, no_name, no_colon, no_value, refusing_field, wrong_read}
use Rattle.agreement.specs.Tried.{wrong_seen}
use Rattle.agreement.specs.AfterAll.{error_of}

-- what follows the wrong byte and may be passed over, and then a byte that may not
module _ (r : Rules) where
  nul_here : (x : Fault) (q : ℕ) {u : List ℕ} (ys : List ℕ) → Many IsIgnorable u → run (ignored_step r x) (first tt) q (u ++ (0x00 ∷ ys)) ≡ refused (fault (blamed x.error) (q + length u)) (q + length u)
  nul_here x q ys none = let n : q + 0 ≡ q = omega arith in rw (nul_stops {b = 0} refl, and-false r.lf_alone, n)
  nul_here x q ys (more {b = b} {w = u} i k) = let n : q + 1 + length u ≡ q + suc (length u) = omega arith in rw (in_ignorable b i) (nul_here x (q + 1) ys k ∙ ap (λ y. refused (fault (blamed x.error) y) y) n)

  cr_here : (x : Fault) (q : ℕ) {u : List ℕ} (c : ℕ) (ys : List ℕ) → (c ≡ 0x0A → ⊥) → Many IsIgnorable u → run (ignored_step r x) (first tt) q (u ++ (0x0D ∷ c ∷ ys)) ≡ refused (fault (blamed x.error) (q + length u + 1)) (q + length u + 1)
  cr_here x q c ys h none = let n : q + 0 + 1 ≡ q + 1 = omega arith in rw (cr_stops {b = 13} refl, ne_eqb c 10 h, n)
  cr_here x q c ys h (more {b = b} {w = u} i k) = let n : q + 1 + length u + 1 ≡ q + suc (length u) + 1 = omega arith in rw (in_ignorable b i) (cr_here x (q + 1) c ys h k ∙ ap (λ y. refused (fault (blamed x.error) y) y) n)

-- the error is that of what is wrong
named : {r : Rules} (p : ℕ) {w rest : List ℕ} (W : LineWrongIs r w rest) → blamed (wrong_read p W).0.error ≡ error_of W
unfolding wrong_read
named p (no_name c ys e i h) = refl
named p (no_colon n s c ys e i k b f g h) = refl
named p (no_value n s m c ys e i k b v q) = refl

as_line : (r : Rules) {z : List ℕ} {p : ℕ} (w rest : List ℕ) {x : Fault} {q : ℕ} → At z p w rest → (B : (b : ℕ) × (bs : List ℕ) × (w ++ rest ≡ b ∷ bs) × (ends r b ≡ false)) → run (tried_step r) untried p (w ++ rest) ≡ refused x q → line r z p ≡ bad x
as_line r {z} {p} w rest {x} {q} h (b, bs, e, t) u =
    ap (λ y. answer nothing (run (line_step r) fresh p y)) (from_at h ∙ e)
    ∙ ap (answer nothing) (run_fresh_other (ends r) (judged (λ _. pass end) (λ e. e) (line_end_step r NewLine)) begin (tried_step r) untried b bs p t ∙ ap (ran other) (ap (run (tried_step r) untried p) (sym e) ∙ u))

begins : (r : Rules) {u : List ℕ} (b : ℕ) (ys : List ℕ) → ends r b ≡ false → Many IsIgnorable u → (c : ℕ) (zs : List ℕ) → u ++ (b ∷ ys) ≡ c ∷ zs → ends r c ≡ false
begins r b ys t none c zs e = let i : b ≡ c = cc in ap (ends r) (sym i) ∙ t
begins r b ys t (more {b = d} x k) c zs e = let i : d ≡ c = cc in ap (ends r) (sym i) ∙ ignorable_no_end r d x

module _ {r : Rules} (on : r.ignore_invalid_headers ≡ true) where
  -- a line that is wrong, by what becomes of the rest of it
  taken_over : (p : ℕ) {w rest : List ℕ} (W : LineWrongIs r w rest) (n : ℕ) → ((x : Fault) (q : ℕ) → run (ignored_step r x) (first tt) q rest ≡ refused (fault (blamed x.error) (q + n)) (q + n)) → run (tried_step r) untried p (w ++ rest) ≡ refused (fault (error_of W) (p + length w + n)) (p + length w + n)
  taken_over p {w} {rest} W n f =
      let F = wrong_read p W in
      let x = F.0 in
      run_rescued r.ignore_invalid_headers (field_step r) behind_byte (ignored_step r) on w rest (first (first names.none)) (first tt) p ((refusing_field r).complete p w rest x F.1)
      ∙ ap (λ t. ran {T = TriedState} (rescuing x) (run (ignored_step r x) t (p + length w) rest)) (wrong_seen r W)
      ∙ ap (ran {T = TriedState} (rescuing x)) (f x (p + length w))
      ∙ ap (λ e. refused (fault e (p + length w + n)) (p + length w + n)) (named p W)

  -- its first byte begins no line's end
  first_byte : {w rest : List ℕ} → LineWrongIs r w rest → ((c : ℕ) (ys : List ℕ) → rest ≡ c ∷ ys → ends r c ≡ false) → (b : ℕ) × (bs : List ℕ) × (w ++ rest ≡ b ∷ bs) × (ends r b ≡ false)
  first_byte {rest = rest} (no_name c ys e i h) f = (c, ys, ap (λ y. y ++ rest) e ∙ i, f c ys i)
  first_byte {rest = rest} (no_colon n s c ys e i (some {b = b} {w = m} x k) t g j l) f = (b, (m ++ s) ++ rest, ap (λ y. y ++ rest) e, token_no_end r b ((token_is_tchar b).1 x))
  first_byte {rest = rest} (no_value n s m c ys e i (some {b = b} {w = v} x k) t g q) f = (b, _, ap (λ y. y ++ rest) e, token_no_end r b ((token_is_tchar b).1 x))

  -- a NUL behind the byte that is wrong, or in its place
  pub nul_after_all : {z : List ℕ} {p : ℕ} {w u : List ℕ} (ys : List ℕ) (W : LineWrongIs r w (u ++ (0x00 ∷ ys))) → Many IsIgnorable u → At z p w (u ++ (0x00 ∷ ys)) → line r z p ≡ bad (fault (error_of W) (p + length w + length u))
  nul_after_all {p = p} {w = w} {u = u} ys W k h = as_line r w (u ++ (0x00 ∷ ys)) h (first_byte W (begins r 0x00 ys (and-false r.lf_alone) k)) (taken_over p W (length u) (λ x q. nul_here r x q ys k))

  -- a CR behind it, or behind a name, that no LF follows
  pub cr_after_all : {z : List ℕ} {p : ℕ} {w u : List ℕ} (c : ℕ) (ys : List ℕ) (W : LineWrongIs r w (u ++ (0x0D ∷ c ∷ ys))) → Many IsIgnorable u → (w ++ u ≡ [] → ⊥) → (c ≡ 0x0A → ⊥) → At z p w (u ++ (0x0D ∷ c ∷ ys)) → line r z p ≡ bad (fault (error_of W) (p + length w + (length u + 1)))
  cr_after_all {p = p} {w = w} {u = u} c ys W k f n h = as_line r w (u ++ (0x0D ∷ c ∷ ys)) h (some_byte W k f) (taken_over p W (length u + 1) (λ x q. cr_here r x q c ys n k ∙ (let i : q + length u + 1 ≡ q + (length u + 1) = omega arith in ap (λ y. refused (fault (blamed x.error) y) y) i)))
    where
      some_byte : {w u : List ℕ} → LineWrongIs r w (u ++ (0x0D ∷ c ∷ ys)) → Many IsIgnorable u → (w ++ u ≡ [] → ⊥) → (b : ℕ) × (bs : List ℕ) × (w ++ (u ++ (0x0D ∷ c ∷ ys)) ≡ b ∷ bs) × (ends r b ≡ false)
      some_byte (no_name d zs e i j) none f = absurd (f (ap (λ y. y ++ []) e))
      some_byte {w} {u} (no_name d zs e i j) (more {b = b} {w = v} x k) f = (b, v ++ (0x0D ∷ c ∷ ys), ap (λ y. y ++ (u ++ (0x0D ∷ c ∷ ys))) e, ignorable_no_end r b x)
      some_byte {w} {u} (no_colon m s d zs e i (some {b = b} {w = v} x k) t g j l) o f = (b, _, ap (λ y. y ++ (u ++ (0x0D ∷ c ∷ ys))) e, token_no_end r b ((token_is_tchar b).1 x))
      some_byte {w} {u} (no_value m s v d zs e i (some {b = b} x k) t g q) o f = (b, _, ap (λ y. y ++ (u ++ (0x0D ∷ c ∷ ys))) e, token_no_end r b ((token_is_tchar b).1 x))

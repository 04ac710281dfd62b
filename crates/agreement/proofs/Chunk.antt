-- What a chunk size line's call answers keeps its promise.
-- Assumes nothing.
use Rattle.std.specs.Prelude.{ℕ, ◌≡◌, List, ◌++◌, length, Err, Ok}
use Rattle.std.proofs.Common.{sym, ap, ◌∙◌}
use Rattle.reader.specs.Answer.{got, short, bad, answer}
use Rattle.reader.proofs.Answer.{answered, bad_stays}
use Rattle.reader.specs.Chain.{nothing}
use Rattle.reader.specs.Tests.{never}
use Rattle.rules.specs.Rules.{default}
use Rattle.parts.specs.declared.Unread.TheVariants.{More, Bad}
use Rattle.chunks.specs.Chunk.{ChunkSize, digits, chunk_step, chunk, size_of}
use Rattle.agreement.specs.Promises.{ChunkPromise, SizeFaultPromise}
use Rattle.agreement.proofs.Decided.{chunk_fault}
use Rattle.agreement.specs.ChunkDerived.{chunk_derived}
use Rattle.agreement.specs.ChunkRead.{from, chunk_read}

size_got : (r : ChunkSize) {n q : ℕ} → size_of r ≡ got n q → r ≡ Ok (n, q)
size_got (Ok (m, p)) e = cc
size_got (Err More) e = never cc
size_got (Err (Bad p)) e = never cc

module _ {s : List ℕ} {r : ChunkSize} (T : size_of r ≡ chunk default s) where
  pub chunk_promise : ChunkPromise s r
  chunk_promise = record {
    complete = λ q n e. let L = chunk_derived s n q (answered nothing _ (sym T ∙ ap size_of e)) in (L.w, L.rest, L.whole, L.place, L.line);
    accepts = λ w t n e l. size_got r (T ∙ ap (λ y. answer nothing (from (digits 0 0) 0 y)) e ∙ ap (answer nothing) (chunk_read l t));
    error = λ p e u w t n i l.
        let b : answer nothing (from (digits 0 0) 0 (s ++ u)) ≡ bad p = bad_stays nothing (chunk_step default) s u (digits 0 0) 0 (sym T ∙ ap size_of e) in
        let g : answer nothing (from (digits 0 0) 0 (s ++ u)) ≡ got n (length w) = ap (λ y. answer nothing (from (digits 0 0) 0 y)) i ∙ ap (answer nothing) (chunk_read l t) in
        let c = sym b ∙ g in
        never cc;
    incomplete = λ e w t n i l.
        let g : short tt ≡ got n (length w) = sym (ap size_of e) ∙ T ∙ ap (λ y. answer nothing (from (digits 0 0) 0 y)) i ∙ ap (answer nothing) (chunk_read l t) in
        never cc;
  }

  pub chunk_fault_promise : SizeFaultPromise s r
  chunk_fault_promise = record { placed = λ p e. chunk_fault s p (sym T ∙ ap size_of e) }

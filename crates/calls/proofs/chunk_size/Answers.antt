-- The call tells what an exact reader answers, and so keeps its promises.
-- Assumes nothing.
use Rattle.std.proofs.Common.{rules}
use Rattle.agreement.proofs.Chunk.{chunk_promise, chunk_fault_promise}
use Rattle.calls.proofs.chunk_size.Goals as goal

pub returns-clause-chunk_promise : goal.returns-clause-chunk_promise
returns-clause-chunk_promise c = search (rules, chunk_promise)

pub returns-clause-size_fault_promise : goal.returns-clause-size_fault_promise
returns-clause-size_fault_promise c = search (rules, chunk_fault_promise)

-- The call tells what an exact reader answers, and so keeps its promises.
-- Assumes nothing.
use Rattle.std.proofs.Common.{rules}
use Rattle.agreement.proofs.Calls.{headers_promise, headers_fault}
use Rattle.calls.proofs.headers.Goals as goal

pub returns-clause-head_promise : goal.returns-clause-head_promise
returns-clause-head_promise c = search (rules, headers_promise)

pub returns-clause-fault_promise : goal.returns-clause-fault_promise
returns-clause-fault_promise c = search (rules, headers_fault)

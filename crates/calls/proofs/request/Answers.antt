-- The call tells what an exact reader answers, and so keeps its promises.
-- Assumes nothing.
use Rattle.std.proofs.Common.{rules}
use Rattle.agreement.specs.Starts.{request_fixed}
use Rattle.agreement.proofs.Calls.{request_promise, request_fault}
use Rattle.calls.proofs.request.Goals as goal

pub returns-clause-head_promise : goal.returns-clause-head_promise
returns-clause-head_promise c = search (rules, request_promise, request_fixed)

pub returns-clause-fault_promise : goal.returns-clause-fault_promise
returns-clause-fault_promise c = search (rules, request_fault)

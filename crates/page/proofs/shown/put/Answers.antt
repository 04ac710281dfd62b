-- `page::shown::put` puts a byte as it is shown behind what stands there: the first of the four bytes that it writes are those.
use Rattle.std.proofs.Common.{rules}
use Rattle.page.proofs.Handed.{take_put}
use Rattle.page.proofs.shown.put.Goals as goal

pub returns-clause-put : goal.returns-clause-put
returns-clause-put c = search (rules, take_put)

-- Each line adds to the headers what the machine adds; what stops a line stops the block.
-- Assumes nothing.
use Rattle.std.proofs.Common.{rules}
use Rattle.blocks.proofs.BlockRead.{blocks, block_stopped}
use Rattle.blocks.proofs.lines.Goals as goal

pub loop-line-init : goal.loop-line-init
loop-line-init c = search (rules, blocks)

pub returns-in_err-line : goal.returns-in_err-line
returns-in_err-line c = block_stopped _ _ c.from_residual.ensures.1 (search (rules, blocks, c.in_err-line.ensures))

pub returns-then-n-count : goal.returns-then-n-count
returns-then-n-count c = search (rules, blocks, c.in_ok-line.ensures)

pub returns-in-End : goal.returns-in-End
returns-in-End c = search (rules, blocks, c.in_ok-line.ensures)

pub loop-line-smaller-else-n-count : goal.loop-line-smaller-else-n-count
loop-line-smaller-else-n-count c = search (rules, blocks, c.in_ok-line.ensures)

pub loop-line-preserved-else-n-count : goal.loop-line-preserved-else-n-count
loop-line-preserved-else-n-count c = search (rules, blocks, c.in_ok-line.ensures)

pub loop-line-smaller : goal.loop-line-smaller
loop-line-smaller c = search (rules, blocks, c.in_ok-line.ensures)

pub loop-line-preserved : goal.loop-line-preserved
loop-line-preserved c = search (rules, blocks, c.in_ok-line.ensures)

-- `protection::is_unprotected` meets its contract: a shift and a remainder by 2 give the digit.
use borrow.Author.Tests.{lt-ltb, le-ltb}
use Rattle.protection.specs.Words.{bit, bit_at, is_unprotected}
use Rattle.protection.proofs.is_unprotected.Goals as goal

pub returns-then-block-lt-BLOCKS : goal.returns-then-block-lt-BLOCKS
unfolding is_unprotected bit_at bit
returns-then-block-lt-BLOCKS c = rw (lt-ltb _ _ c.if-block-lt-BLOCKS.true)

pub returns-else-block-lt-BLOCKS : goal.returns-else-block-lt-BLOCKS
unfolding is_unprotected
returns-else-block-lt-BLOCKS c = rw (le-ltb _ _ c.if-block-lt-BLOCKS.false)

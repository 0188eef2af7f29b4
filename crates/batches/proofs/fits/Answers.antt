use Rattle.batches.specs.Making.{fits_not, fits-exactly}
use borrow.Author.Rules.{rules}
use Rattle.batches.proofs.fits.Goals as goal

pub returns-then-len : goal.returns-then-len
returns-then-len c = fits_not _ _ c.if-len.true

pub returns : goal.returns
returns c = rw (c.count_of.ensures) (fits-exactly _ _ c.if-len.false)

use Rattle.std.proofs.Common.{◌≡◌, false, true, sym, ◌∙◌}
use Rattle.cell_store.specs.Making.{StoreFits}
use Rattle.cell_store.proofs.StoreLaws.{created_heaps, fits_all, fits_none}
use Rattle.cell_store.proofs.store.CellStore.make.Goals as goal

pub returns-then-not-fits-clause-fits : goal.returns-then-not-fits-clause-fits
returns-then-not-fits-clause-fits c =
    fits_none c.args.self.now c.args.size
    (λ (fits : StoreFits c.args.self.now c.args.size). let no : false ≡ true = sym c.if-not-fits.true ∙ c.fits.ensures.1 fits in cc)

pub returns-clause-heaps : goal.returns-clause-heaps
returns-clause-heaps c =
    created_heaps c.args.self.now c.place.new.self c.args.size c.args.desc c.place.result (c.fits.ensures.0 c.if-not-fits.false) c.place.ensures

pub returns-clause-fits : goal.returns-clause-fits
returns-clause-fits c = fits_all c.args.self.now c.args.size (c.fits.ensures.0 c.if-not-fits.false)

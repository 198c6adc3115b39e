use Rattle.ore_rational.specs.Field.{rationals, rational_inverses}
use Rattle.ore_monomial.proofs.Signatures.{lawful}
use Rattle.ore_laws.proofs.TorsionOrColumn.{torsion_or_column}
use Rattle.ore_laws.proofs.KernelTorsion.{torsion_of_kernel, nonzero_first}
use Rattle.ore_syzygy.proofs.laws.law_column.Goals as goal

pub returns-clause-column : goal.returns-clause-column
returns-clause-column c = λ n a z long of lz oz.
    let s = c.args.sig.now in torsion_or_column rationals s (lawful s) n rational_inverses a long of z lz oz

pub returns-clause-kernel : goal.returns-clause-kernel
returns-clause-kernel c = λ n m r q z long of wide rows exact lz oz e.
    let s = c.args.sig.now in torsion_of_kernel rationals s (lawful s) n m r q long wide rows exact rational_inverses of z lz oz e

pub returns-clause-syzygy : goal.returns-clause-syzygy
returns-clause-syzygy c = λ n r l z lz t exact. nonzero_first rationals c.args.sig.now (lawful c.args.sig.now) n r l z lz t exact

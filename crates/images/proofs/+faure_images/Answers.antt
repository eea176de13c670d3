-- Each base above 3 is made of its half. Assumes nothing.
use Prim.Native.Nat.{◌/◌}
use native.Mathlib.Omega.{arith}
use borrow.Author.Rules.{rules}
use Rattle.numbers.proofs.ListedLaws.{begins_as}
use Rattle.permutation.specs.Faure.{faure}
use Rattle.permutation.specs.Families.{image_of}
use Rattle.permutation.proofs.FaureRules.{faure_small}
use Rattle.permutation.proofs.FaureLaws.{faure_below}
use Rattle.images.proofs.DoubledLaws.{table_small, halves_doubled}
use Rattle.images.proofs.HalfLaws.{even_low, even_high}
use Rattle.images.proofs.+faure_images.Goals as goal

pub returns-then-b-lt4 : goal.returns-then-b-lt4
unfolding image_of
returns-then-b-lt4 t c =
    let b = c.args.b in
    begins_as c.plain_images.ensures (faure b) (λ d h. faure_small b d (omega arith) h)

pub double_part-requires : goal.double_part-requires
double_part-requires t c =
    let b = c.args.b in (
      omega arith,
      omega arith,
      omega arith,
      search rules,
      table_small c.faure_images.ensures (λ k l. faure_below (b / 2) k (omega arith) l) (omega arith) (b / 2) (omega arith),
    )

pub returns-then-b-eq0 : goal.returns-then-b-eq0
returns-then-b-eq0 t c =
    let b = c.args.b in
    halves_doubled c.faure_images.ensures (λ k l. even_low {b = b} (omega arith) (omega arith) l) c.double_part.ensures
    (λ k l. even_high {b = b} (omega arith) (omega arith) l) b (omega arith)

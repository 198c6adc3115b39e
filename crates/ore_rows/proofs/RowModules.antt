-- What a row module holds, over any domain.
--     module_zero        zeros
--     module_minus       differences
--     module_combine     combinations of its rows, by coefficients of the signature
--     module_row         each of the rows that span it
--     length-module, of_module     its rows are as long as those that span it, and of the signature where these are
use Rattle.std.proofs.Common.{◌≡◌, ℕ, ◌<◌, List, [], ◌∷◌, length, get_or, sym, ap, ◌∙◌, subst}
use Rattle.std.specs.List.{AllByRecursion}
use Rattle.ore_algebra.specs.Domain.{Domain}
use Rattle.ore_algebra.specs.Free.{single}
use Rattle.ore_monomial.specs.Monomial.{unit, plain_cmp}
use Rattle.ore_monomial.specs.Signature.{Signature, IsLawful}
use Rattle.ore_monomial.proofs.Declared.{MonomialOf-unit}
use Rattle.ore_ring.proofs.Belonging.{of_single}
use Rattle.ore_rows.specs.Rows.{Row, RowOf, AreLong, zero_row, unit_row, row_minus, combine, InRowModule}
use Rattle.ore_rows.proofs.Differences.{row_minus_scaled}
use Rattle.ore_rows.proofs.RowLaws.{length-zero_row, of_zero_row, combine-zero, module_plus, module_scale, length-combine, of_combine}
use Rattle.ore_rows.proofs.UnitRows.{length-unit_row, of_unit_row, combine-unit_row}

module _ (K : Domain) (s : Signature) (lawful : IsLawful s) (n : ℕ) (rows : List (Row K)) (long : AreLong K n rows) where
  pub module_zero : InRowModule K s n rows (zero_row K n)
  unfolding InRowModule
  module_zero = (zero_row K (length rows), length-zero_row K s lawful (length rows), of_zero_row K s (length rows), combine-zero K s (length rows) n rows long)

  pub module_minus : (z w : Row K) → InRowModule K s n rows z → InRowModule K s n rows w → InRowModule K s n rows (row_minus K z w)
  module_minus z w a b =
      subst (InRowModule K s n rows) (sym (row_minus_scaled K s lawful z w))
      (module_plus K s lawful n rows z _ a (module_scale K s lawful n rows (single K plain_cmp unit (K.minus K.one)) w (of_single K s unit (K.minus K.one) (MonomialOf-unit s)) b))

  pub module_combine : (c : Row K) (zs : List (Row K)) → RowOf K s c → AllByRecursion (InRowModule K s n rows) zs → InRowModule K s n rows (combine K s n c zs)
  unfolding combine
  module_combine [] zs o h = module_zero
  module_combine (c ∷ cs) [] o h = module_zero
  module_combine (c ∷ cs) (z ∷ zs) o h = module_plus K s lawful n rows _ _ (module_scale K s lawful n rows c z o.0 h.0) (module_combine cs zs o.1 h.1)

  pub module_row : (i : ℕ) → i < length rows → InRowModule K s n rows (get_or rows i [])
  unfolding InRowModule
  module_row i h = (unit_row K (length rows) i, length-unit_row K (length rows) i, of_unit_row K s (length rows) i, combine-unit_row K s lawful n i rows h long)

  pub length-module : (z : Row K) → InRowModule K s n rows z → length z ≡ n
  unfolding InRowModule
  length-module z (c, lc, oc, e) = sym (ap length e) ∙ length-combine K s lawful n c rows long

  pub of_module : (z : Row K) → AllByRecursion (RowOf K s) rows → InRowModule K s n rows z → RowOf K s z
  unfolding InRowModule
  of_module z of (c, lc, oc, e) = subst (RowOf K s) e (of_combine K s n c rows oc of)

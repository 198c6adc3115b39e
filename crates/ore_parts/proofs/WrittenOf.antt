-- Parts of certificates that may be written belong to the signature.
--     Weaker                               each condition on parts gives another
--     exact_weaker, outside_weaker, link_weaker     so blocks and links that meet the first meet the others
--     step_of, steps_of, entry_of, matrix_of        steps; what was done with a pair; matrices
--     written_of                           parts that may be written are of the signature
--     exact_of, outside_of                 so are blocks
use Rattle.std.proofs.Common.{List, ℕ, sym, ◌∙◌}
use Rattle.std.proofs.lemmas.List.Elements.{All-weaker}
use Rattle.ore_rational.specs.Field.{rationals}
use Rattle.ore_monomial.specs.Signature.{Signature, MonomialOf}
use Rattle.ore_monomial.proofs.Operators
use Rattle.ore_ring.specs.Ordered.{Ordered}
use Rattle.ore_rows.specs.Reduction.{Step}
use Rattle.ore_rows.specs.Stored.{OperatorMatrix}
use Rattle.ore_parts.specs.declared.block.PairEntry.{PairEntry}
use Rattle.ore_parts.specs.declared.block.PairEntry.TheVariants.{Pair, Skip}
use Rattle.ore_parts.specs.declared.block.ExactBlock.{ExactBlock}
use Rattle.ore_parts.specs.declared.block.OutsideBlock.{OutsideBlock}
use Rattle.ore_parts.specs.declared.block.Link.{Link}
use Rattle.ore_parts.specs.BlockText.{IsWrittenStep, IsWrittenSteps, IsWrittenEntry, IsWrittenMatrix, written, IsWrittenExact, IsWrittenOutside}
use Rattle.ore_parts.specs.EachPart.{PartConditions, ExactMeets, OutsideMeets, LinkMeets}
use Rattle.ore_parts.specs.OfSignature.{MatrixOf, AreStoredStepsOf, IsEntryOf, of_signature, IsExactOf, IsOutsideOf}
use Rattle.ore_parts.proofs.Steps.{widths}

pub record Weaker (C D : PartConditions) : Type 0 where
  pub matrix : (m : OperatorMatrix) → C.matrix m → D.matrix m
  pub pairs : (pairs : List PairEntry) → C.pairs pairs → D.pairs pairs
  pub steps : (steps : List (Step rationals)) → C.steps steps → D.steps steps
  pub row : (r : List Ordered) → C.row r → D.row r

module _ (C D : PartConditions) (w : Weaker C D) where
  pub exact_weaker : (b : ExactBlock) → ExactMeets C b → ExactMeets D b
  exact_weaker b h = record { basis = w.matrix b.basis h.basis; from = w.matrix b.from h.from; to = w.matrix b.to h.to; pairs = w.pairs b.pairs h.pairs; inside = w.matrix b.inside h.inside }

  pub outside_weaker : (b : OutsideBlock) → OutsideMeets C b → OutsideMeets D b
  outside_weaker b h = record { basis = w.matrix b.basis h.basis; from = w.matrix b.from h.from; pairs = w.pairs b.pairs h.pairs; quotients = w.steps b.quotients h.quotients; rest = w.row b.rest h.rest }

  pub link_weaker : (k : Link) → LinkMeets C k → LinkMeets D k
  link_weaker k h = record { l = w.matrix k.l h.l; block = exact_weaker k.block h.block }

module _ (s : Signature) (names : List (List ℕ)) where
  step_of : (t : Step rationals) → IsWrittenStep s names t → MonomialOf s t.monomial
  step_of t h = h.term.variables t.monomial (λ e. h.number (sym (Operators.coefficient-own rationals t.monomial t.number) ∙ e))

  steps_of : (steps : List (Step rationals)) → IsWrittenSteps s names steps → AreStoredStepsOf s steps
  steps_of steps h = All-weaker (IsWrittenStep s names) (λ (t : Step rationals). MonomialOf s t.monomial) step_of steps h.all

  entry_of : (e : PairEntry) → IsWrittenEntry s names e → IsEntryOf s e
  entry_of (Pair i j steps) h = steps_of steps h.2
  entry_of (Skip i j via) h = tt

  matrix_of : (m : OperatorMatrix) → IsWrittenMatrix s names m → MatrixOf s m
  matrix_of m h = record { columns = widths s names m.cols m.rows h.written.fits; of = h.of }

  pub written_of : Weaker (written s names) (of_signature s)
  written_of = record {
    matrix = matrix_of;
    pairs = λ pairs h. All-weaker (IsWrittenEntry s names) (IsEntryOf s) entry_of pairs h.all;
    steps = steps_of;
    row = λ r h. h.of;
  }

  pub exact_of : (b : ExactBlock) → IsWrittenExact s names b → IsExactOf s b
  exact_of b h = exact_weaker (written s names) (of_signature s) written_of b h

  pub outside_of : (b : OutsideBlock) → IsWrittenOutside s names b → IsOutsideOf s b
  outside_of b h = outside_weaker (written s names) (of_signature s) written_of b h

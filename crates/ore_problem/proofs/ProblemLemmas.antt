-- The parts of a problem, one after the other: where one stops, the problem does; where all are read, it is made of them.
--     stops_at_declarations, stops_at_sizes, stops_at_rows, stops_at_end      the fault of a part, where those before it are read
--     problem_is           the problem, where all parts are read
--     prefix_stops, prefix_is      the problem at the front of a text, by the problem that its lines begin with
--     problem_stops, problem_ends      the problem that is the whole text, by the same
use Rattle.std.proofs.Common.{◌≡◌, ℕ, List, refl}
use Rattle.std.specs.declared.result.Result.TheVariants.{Ok, Err}
use Rattle.ore_rational.specs.Field.{rationals}
use Rattle.ore_monomial.specs.declared.order.Order.{Order}
use Rattle.ore_rows.specs.Rows.{Row}
use Rattle.ore_problem.specs.declared.fault.ProblemFault.{ProblemFault}
use Rattle.ore_problem.specs.Lines.{Cursor, at_start}
use Rattle.ore_problem.specs.Problems.{System, Declarations, header_after, order_after, declarations_after, sizes_of, rows_after, end_after, prefix_of, prefix_sizes, problem_of, ends_there}
use Rattle.ore_problem.specs.Reader.{problem_after}

module _ (start c1 c2 : Cursor) (o : Order) (first : header_after start ≡ Ok c1) (second : order_after c1 ≡ Ok (o, c2)) where
  pub stops_at_declarations : (e : ProblemFault) → declarations_after o c2 ≡ Err e → problem_after start ≡ Err e
  unfolding problem_after
  stops_at_declarations e h = rw (first, second, h) refl

  module _ (d : Declarations) (declared : declarations_after o c2 ≡ Ok d) where
    pub stops_at_sizes : (e : ProblemFault) → sizes_of d.cursor.line d.sizes ≡ Err e → problem_after start ≡ Err e
    unfolding problem_after
    stops_at_sizes e h = rw (first, second, declared, h) refl

    module _ (rows cols : ℕ) (sized : sizes_of d.cursor.line d.sizes ≡ Ok (rows, cols)) where
      pub stops_at_rows : (e : ProblemFault) → rows_after d.frame cols rows d.cursor ≡ Err e → problem_after start ≡ Err e
      unfolding problem_after
      stops_at_rows e h = rw (first, second, declared, sized, h) refl

      module _ (rs : List (Row rationals)) (c3 : Cursor) (filled : rows_after d.frame cols rows d.cursor ≡ Ok (rs, c3)) where
        pub stops_at_end : (e : ProblemFault) → end_after c3 ≡ Err e → problem_after start ≡ Err e
        unfolding problem_after
        stops_at_end e h = rw (first, second, declared, sized, filled, h) refl

        pub problem_is : (c4 : Cursor) → end_after c3 ≡ Ok c4 → problem_after start ≡ Ok (record { names = d.frame.names; signature = d.frame.signature; cols = cols; rows = rs }, c4)
        unfolding problem_after
        problem_is c4 h = rw (first, second, declared, sized, filled, h) refl

-- ---- texts

prefix_of-problem_after : (text : List ℕ) → prefix_of text ≡ problem_after (at_start text)
unfolding prefix_of problem_after
prefix_of-problem_after text = refl

module _ (text : List ℕ) where
  pub prefix_stops : (e : ProblemFault) → problem_after (at_start text) ≡ Err e → prefix_sizes text ≡ Err e
  prefix_stops e h = rw (prefix_of-problem_after text, h) refl

  pub prefix_is : (p : System) (c : Cursor) → problem_after (at_start text) ≡ Ok (p, c) → prefix_sizes text ≡ Ok (p, (c.used, c.line))
  prefix_is p c h = rw (prefix_of-problem_after text, h) refl

  pub problem_stops : (e : ProblemFault) → problem_after (at_start text) ≡ Err e → problem_of text ≡ Err e
  unfolding problem_of
  problem_stops e h = rw (prefix_of-problem_after text, h) refl

  pub problem_ends : (p : System) (c : Cursor) → problem_after (at_start text) ≡ Ok (p, c) → problem_of text ≡ ends_there p c c.left
  unfolding problem_of
  problem_ends p c h = rw (prefix_of-problem_after text, h) refl

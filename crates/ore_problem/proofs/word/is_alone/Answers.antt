use Rattle.std.proofs.Common.{sym, arith, map, [], ◌∷◌}
use Rattle.std.proofs.lemmas.List.{length-map}
use Rattle.ore_problem.proofs.WordLemmas.{are_words_apart}
use Rattle.ore_problem.proofs.word.is_alone.Goals as goal

pub returns-in-len2-up : goal.returns-in-len2-up
returns-in-len2-up c = sym (are_words_apart (map (λ w. w.now) c.args.words.now) (c.args.known.now ∷ []) (λ e. omega (arith, e, length-map c.args.words.now (λ w. w.now), c.in-len2-up.len_at_least)))

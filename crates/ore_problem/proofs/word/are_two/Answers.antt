use Rattle.std.proofs.Common.{sym, arith, map, [], ◌∷◌}
use Rattle.std.proofs.lemmas.List.{length-map}
use Rattle.ore_problem.proofs.WordLemmas.{are_words_apart}
use Rattle.ore_problem.proofs.word.are_two.Goals as goal

pub returns-in-len1 : goal.returns-in-len1
returns-in-len1 c = sym (are_words_apart (map (λ w. w.now) c.args.words.now) (c.args.first.now ∷ c.args.second.now ∷ []) (λ e. omega (arith, e, length-map c.args.words.now (λ w. w.now), c.in-len1.len_below)))

pub returns-in-len3-up : goal.returns-in-len3-up
returns-in-len3-up c = sym (are_words_apart (map (λ w. w.now) c.args.words.now) (c.args.first.now ∷ c.args.second.now ∷ []) (λ e. omega (arith, e, length-map c.args.words.now (λ w. w.now), c.in-len3-up.len_at_least)))

-- Pieces at the front of a text.
--     take-length-take_while       as many bytes as a piece has are the piece
--     length-take_while            a piece is no longer than the text
--     AllPass-take_while           each byte of a piece passes its test
use Rattle.std.proofs.Common.{◌≡◌, ◌<◌, ◌≤◌, Bool, List, length, take, ap, subst}
use Rattle.std.specs.List.{take_while, prefix_len, AllPass}
use Rattle.std.proofs.lemmas.List.{get_or-take}
use Rattle.std.proofs.lemmas.List.Folds.{length-prefix_len}
use Rattle.std.proofs.lemmas.List.Sums.{prefix_len-le-length, prefix_len_passes}

module _ {X : Type 0} (p : X → Bool) (xs : List X) where
  pub take-length-take_while : take (length (take_while p xs)) xs ≡ take_while p xs
  take-length-take_while = ap (λ n. take n xs) (length-prefix_len p xs)

  pub length-take_while : length (take_while p xs) ≤ length xs
  length-take_while = rw length-prefix_len (prefix_len-le-length p xs)

  pub AllPass-take_while : AllPass p (take_while p xs)
  AllPass-take_while = λ k d below.
      let within : k < prefix_len p xs = subst (λ n. k < n) (length-prefix_len p xs) below in
      rw get_or-take (prefix_len_passes p xs k d within)

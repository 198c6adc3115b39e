-- Reading known bytes.
--     Takes-read   the bytes read before and the front of one more piece were taken
use Rattle.std.proofs.Common.{◌≡◌, ℕ, ◌+◌, ◌≤◌, List, ◌++◌, length, take, ap, ◌∙◌, length-append, arith}
use Rattle.std.specs.declared.option.Option.{Option}
use Rattle.std.proofs.lemmas.List.{length-take}
use Rattle.std.specs.Io.KnownBytes.{prepend_known}
use Rattle.ore_reply.specs.InputEnd.{Takes}
use Rattle.ore_reply.proofs.Pieces.{prepend_known-prepend_known}

pub Takes-read : (old between new : Option (List ℕ)) (bytes piece : List ℕ) (count total : ℕ) →
    old ≡ prepend_known bytes between → between ≡ prepend_known (take count piece) new →
    count ≤ length piece → length bytes + count ≡ total → Takes old new total
Takes-read old between new bytes piece count total before one_more count_fits all =
    let lengths : length (bytes ++ take count piece) ≡ total =
    omega (arith, length-append bytes (take count piece), length-take count piece) in (
      bytes ++ take count piece,
      lengths,
      before ∙ ap (prepend_known bytes) one_more ∙ prepend_known-prepend_known bytes (take count piece) new,
    )

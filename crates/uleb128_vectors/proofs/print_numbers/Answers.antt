-- `print_numbers` ends: the place behind a number is behind the place of its code, which is the code of the number that was read.
use Rattle.std.proofs.Common.{◌≡◌, sym, arith}
use Rattle.leb128.specs.Coding.{number, decoded_at}
use Rattle.leb128.proofs.Laws.{encoded_decoded, size_within}
use Rattle.leb128.proofs.OneToOne.{decoded_one_to_one}
use Rattle.uleb128_vectors.proofs.print_numbers.Goals as goal

pub loop-at-smaller : goal.loop-at-smaller
loop-at-smaller g c =
    let read : decoded_at c.args.bytes.now c.loop-at.at ≡ number c.in-Ok.found.value c.in-Ok.found.next = sym (decoded_one_to_one _ _ c.in-Ok.ensures) in
    let code = encoded_decoded _ _ _ _ (λ i. (c.type_inv.bytes i).fits) read in
    omega (arith, c.loop-at-test.true, code.behind, (size_within c.in-Ok.found.value).0)

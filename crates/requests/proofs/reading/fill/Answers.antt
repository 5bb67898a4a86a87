use Rattle.std.proofs.Common.{◌≡◌, ◌+◌, ◌<◌, ◌≤◌, ℕ, List, length, take, arith, length-take}
use Rattle.std.proofs.KnownBytes.{Keeps-refl}
use Rattle.requests.proofs.Streams.{grows_none}
use Rattle.requests.proofs.reading.fill.Goals as goal

fits : (room len n most : ℕ) (bytes : List ℕ) → room < len + length (take n bytes) → len + most ≤ room → n ≤ most → ⊥
fits room len n most bytes full reserved few = omega (arith, full, reserved, few, length-take n bytes)

within : (n most : ℕ) (old new : List ℕ) → n ≤ length new → length new ≡ length (take most old) → n ≤ most
within n most old new bound same = omega (arith, bound, same, length-take most old)

pub returns-in_err-reserve-clause-grows : goal.returns-in_err-reserve-clause-grows
returns-in_err-reserve-clause-grows g c = grows_none _ _ _ _ (Keeps-refl (g.R.Read.remaining c.args.reader.now)) c.reserve.ensures.items

pub returns-in_err-count-clause-grows : goal.returns-in_err-count-clause-grows
returns-in_err-count-clause-grows g c = grows_none _ _ _ _ c.in_err-count.ensures.bytes c.reserve.ensures.items

-- there is room for what was read
pub returns-in_err-extend_from_slice : goal.returns-in_err-extend_from_slice
returns-in_err-extend_from_slice g c =
    let few : c.in_ok-count.count ≤ c.args.most = within _ c.args.most _ c.read_some.new.space c.in_ok-count.ensures.bound.0 c.read_some.auto.space in
    absurd (fits _ _ c.in_ok-count.count c.args.most _ c.in_err-extend_from_slice.ensures.full c.in_ok-reserve.ensures.ok few)

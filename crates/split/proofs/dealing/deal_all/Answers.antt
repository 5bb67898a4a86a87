use Rattle.std.proofs.Common.{◌≡◌, ℕ, ◌+◌, ◌^◌, List, length, replicate, sym, ap, ◌∙◌, subst, arith}
use Rattle.std.proofs.lemmas.List.{nil_from_length}
use Rattle.std.specs.FinMap as finite
use Rattle.accept.specs.Rooms.{Streams, segment_bytes}
use Rattle.split.specs.Maps.{map_at, IsSplit, all_dealt, AreFit, HaveRoomWithin}
use Rattle.split.proofs.Dealt.{is_split, rooms_within, apart_by_fit, fit_by_split}
use Rattle.split.proofs.dealing.deal_all.Goals as goal

-- nothing is left to deal
ended : (m : ℕ) (news olds none : List Streams) (n : ℕ) → n ≡ length none → n ≡ 0 → all_dealt m news none ≡ all_dealt m (replicate m finite.empty) olds → news ≡ all_dealt m (replicate m finite.empty) olds
ended m news olds none n long zero is = ap (λ (l : List Streams). all_dealt m news l) (sym (nil_from_length none (sym long ∙ zero))) ∙ is

pub returns-clause-split : goal.returns-clause-split
returns-clause-split c =
    let olds = c.args.olds.items in
    let m = c.args.count in
    let done : c.loop-old.news.items ≡ all_dealt m (replicate m finite.empty) olds = ended c.args.count c.loop-old.news.items olds _ _ c.loop-old.invariant.left c.in-None.ensures.steps.0 c.loop-old.invariant.dealt in
    let fit = subst (λ (n : ℕ). AreFit n olds) c.args.olds.ok.0 c.requires.fit in
    subst (λ (n : ℕ). IsSplit n m (map_at olds) (map_at c.loop-old.news.items)) (sym c.args.olds.ok.0) (is_split m olds c.loop-old.news.items (omega (arith, c.requires.count)) (apart_by_fit (length olds) olds fit) done)

pub returns-clause-fit : goal.returns-clause-fit
returns-clause-fit c =
    let olds = c.args.olds.items in
    let m = c.args.count in
    let done : c.loop-old.news.items ≡ all_dealt m (replicate m finite.empty) olds = ended c.args.count c.loop-old.news.items olds _ _ c.loop-old.invariant.left c.in-None.ensures.steps.0 c.loop-old.invariant.dealt in
    let fit = subst (λ (n : ℕ). AreFit n olds) c.args.olds.ok.0 c.requires.fit in
    fit_by_split (length olds) m olds c.loop-old.news.items (omega (arith, c.requires.olds, c.args.olds.ok.0)) fit (is_split m olds c.loop-old.news.items (omega (arith, c.requires.count)) (apart_by_fit (length olds) olds fit) done)

pub returns-clause-small : goal.returns-clause-small
returns-clause-small c =
    let olds = c.args.olds.items in
    let m = c.args.count in
    let done : c.loop-old.news.items ≡ all_dealt m (replicate m finite.empty) olds = ended c.args.count c.loop-old.news.items olds _ _ c.loop-old.invariant.left c.in-None.ensures.steps.0 c.loop-old.invariant.dealt in
    rooms_within m olds c.loop-old.news.items (omega (arith, c.requires.count)) (omega (arith, c.requires.olds, c.args.olds.ok.0)) (subst (λ (n : ℕ). HaveRoomWithin (2 ^ 31 + segment_bytes) n olds) c.args.olds.ok.0 c.requires.small) done

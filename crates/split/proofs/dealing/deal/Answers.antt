use Rattle.std.proofs.Common.{false, List, set, IsSome, refl, ap, sym, subst, ◌∙◌}
use Rattle.std.specs.List.{fold}
use Rattle.std.specs.List.Sorted.{IsStrictlySortedBy}
use Rattle.std.specs.Map.{keys_of}
use Rattle.std.specs.FinMap as finite
use Rattle.labels.specs.Keys.{key_cmp}
use Rattle.labels.specs.Shards.{shard}
use Rattle.accept.specs.Rooms.{Streams}
use Rattle.accept.specs.Histories.{set_stream}
use Rattle.accept.specs.StreamMaps.{images_of, AllHoldBut}
use Rattle.accept.proofs.Maps.{States}
use Rattle.accept.proofs.ImageMaps.{Entries, held_in_order, first_held}
use Rattle.split.specs.Maps.{map_at, put_in_map}
use Rattle.split.proofs.dealing.deal.Goals as goal

pub loop-key-init : goal.loop-key-init
loop-key-init c =
    let gives = c.into_iter-key-iterator.ensures.into_iter_gives in
    let put = put_in_map c.args.count in
    record {
      len = c.requires.len;
      dealt = ap (λ (es : States). fold put c.args.news.now.items (images_of es)) gives.0
          ∙ ap (λ (es : Entries). fold put c.args.news.now.items es) (held_in_order c.into_states-key-items.result.entries gives.5 ∙ ap (λ (m : Streams). finite.entries m) c.into_states-key-items.ensures.streams);
      ordered = subst (λ (es : States). IsStrictlySortedBy key_cmp (keys_of es)) (sym gives.0) gives.5;
      hold = subst (AllHoldBut (λ _. false)) (sym gives.0) c.into_states-key-items.ensures.hold;
    }

pub put_stream-requires-clause-some : goal.put_stream-requires-clause-some
put_stream-requires-clause-some c =
    let first = first_held c.in-Some.key c.in-Some.state c.loop-key.key-iterator c.next.new.self c.in-Some.ensures.steps c.loop-key.invariant.ordered c.loop-key.invariant.hold in
    subst (λ o. IsSome o) (sym first.has) refl

pub loop-key-preserved : goal.loop-key-preserved
loop-key-preserved c =
    let first = first_held c.in-Some.key c.in-Some.state c.loop-key.key-iterator c.next.new.self c.in-Some.ensures.steps c.loop-key.invariant.ordered c.loop-key.invariant.hold in
    let put = put_in_map c.args.count in
    let maps = c.loop-key.news.items in
    let place = shard c.in-Some.key c.args.count in
    record {
      len = c.put_stream.ensures.len;
      dealt = ap (λ (ms : List Streams). fold put ms (images_of c.next.new.self)) (c.in_ok-put_stream.ensures.put ∙ ap (λ o. set maps place (set_stream (map_at maps place) c.in-Some.key o)) first.has)
          ∙ sym (ap (λ (es : Entries). fold put maps es) first.images)
          ∙ c.loop-key.invariant.dealt;
      ordered = first.ordered;
      hold = first.hold;
    }

pub returns-clause-dealt : goal.returns-clause-dealt
returns-clause-dealt c =
    sym (ap (λ (es : States). fold (put_in_map c.args.count) c.loop-key.news.items (images_of es)) c.in-None.ensures.steps.0) ∙ c.loop-key.invariant.dealt

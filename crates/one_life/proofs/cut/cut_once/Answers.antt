use Rattle.std.proofs.Common.{◌∷◌, []}
use Rattle.one_life.specs.Cut.{opening_with}
use Rattle.one_life.proofs.Staying.{opened_of, called_of, met_of, own_of, cut_of}
use Rattle.one_life.proofs.cut.cut_once.Goals as goal

pub call_both-requires : goal.call_both-requires
call_both-requires g c =
    let start = c.in_ok-history.it in
    let of = opened_of g.D.Disk.sight g.D.Disk.follows c.args.limits c.args.capacity (c.args.slots.0 ∷ c.args.slots.1 ∷ []) (opening_with start) start c.in_ok-history.history c.in_ok-history.ensures.opened c.in_ok-history.ensures.table in
    record { of = of; shards = (c.requires.shards.0, c.requires.shards.1); numbers = (c.requires.numbers.0, c.requires.numbers.1) }

pub cut_turn-requires : goal.cut_turn-requires
cut_turn-requires g c =
    let start = c.in_ok-history.it in
    let table = c.in_ok-history.history in
    let about = start.first.book.about in
    let mid = c.call_both.new.it in
    let were = opened_of g.D.Disk.sight g.D.Disk.follows c.args.limits c.args.capacity (c.args.slots.0 ∷ c.args.slots.1 ∷ []) (opening_with start) start table c.in_ok-history.ensures.opened c.in_ok-history.ensures.table in
    let are = called_of g.D.Disk.sight g.D.Disk.follows table about start mid c.args.calls.0 c.args.calls.1 c.in_ok-replies.replies c.in_ok-replies.ensures were in
    let met = met_of table about mid c.meet.new.one c.meet.new.two c.meet.ensures.one c.meet.ensures.two are in
    record { of = own_of table about (record mid { one = c.meet.new.one; two = c.meet.new.two }) met; shard = c.requires.shards.2; numbers = c.requires.numbers.2 }

pub returns-in-Some : goal.returns-in-Some
returns-in-Some g c =
    cut_of g.D.Disk.sight g.D.Disk.follows c.args.limits c.args.capacity (c.args.slots.0 ∷ c.args.slots.1 ∷ []) c.in_ok-history.it c.call_both.new.it c.cut_turn.new.it c.meet.new.one c.meet.new.two c.in_ok-history.history c.args.calls.0 c.args.calls.1 c.args.calls.2 c.in_ok-replies.replies
    c.in_ok-history.ensures.opened c.in_ok-history.ensures.table c.in_ok-replies.ensures c.meet.ensures.one c.meet.ensures.two c.meet.ensures.met c.in-Some.ensures

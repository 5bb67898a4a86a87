use Rattle.std.proofs.Common.{◌≡◌, ℕ, List, length, sym, ap, ◌∙◌, subst}
use Rattle.std.specs.Prelude.{vec_len, OnOk}
use Rattle.std.proofs.lemmas.Result.{err_from_is_err_and}
use Rattle.accept.specs.Rooms.{Streams}
use Rattle.segment.specs.ShardPlaces.{place_of}
use Rattle.split.specs.declared.fault.SplitFault.{SplitFault}
use Rattle.split.specs.Maps.{map_at, IsSplit, HaveRoomWithin, IsFirstAbove}
use Rattle.split.specs.Splits.{EachPair, IsCause}
use Rattle.split.specs.Stages.{IsShardBegun}
use Rattle.split.proofs.Wholes.{old_read, no_room, finished_if_ok, cause_if_err}
use Rattle.split.proofs.splitting.split_over.Goals as goal

-- the same maps under numbers that are equal
split_at : (n m k l : ℕ) (olds news : List Streams) → n ≡ k → m ≡ l → IsSplit n m (map_at olds) (map_at news) → IsSplit k l (map_at olds) (map_at news)
split_at n m k l olds news e f is = subst (λ (i : ℕ). IsSplit i l (map_at olds) (map_at news)) e (subst (λ (j : ℕ). IsSplit n j (map_at olds) (map_at news)) f is)

pub returns-in_err-test_all-clause-cause : goal.returns-in_err-test_all-clause-cause
returns-in_err-test_all-clause-cause g c =
    let p = err_from_is_err_and c.from_residual-in_err-test_all.result c.from_residual-in_err-test_all.ensures.1 in
    rw (p.1, p.2) (c.in_err-test_all.ensures.cause c.args.cap c.args.old.now.items c.read_all.new.old.items
    (old_read g.D.Disk.sight g.D.Disk.follows (vec_len c.args.old.now) c.in_ok-olds.olds.items c.args.old.now.items c.read_all.new.old.items c.args.old.now.ok.0 c.in_ok-olds.ensures.read))

pub returns-in_err-test_rooms-clause-cause : goal.returns-in_err-test_rooms-clause-cause
returns-in_err-test_rooms-clause-cause g c =
    let p = err_from_is_err_and c.from_residual-in_err-test_rooms.result c.from_residual-in_err-test_rooms.ensures.1 in
    let full = c.in_err-test_rooms.ensures.full in
    let olds = c.in_ok-olds.olds.items in
    let news = c.in_ok-news.news.items in
    let new = c.args.new.now in
    let many : c.len-count.result ≡ length new.items = c.len-count.ensures ∙ new.ok.0 in
    let len : length news ≡ length new.items = sym c.in_ok-news.news.ok.0 ∙ (c.in_ok-news.ensures.len ∙ many) in
    let split = split_at (vec_len c.in_ok-olds.olds) c.len-count.result (vec_len c.args.old.now) (length new.items) olds news c.in_ok-olds.ensures.images many c.in_ok-news.ensures.split in
    let cause = no_room g.D.Disk.sight g.D.Disk.follows (vec_len c.args.old.now) c.args.cap full.0 olds news c.args.old.now.items c.read_all.new.old.items new.items c.test_all.new.new.items c.args.old.now.ok.0 len
    (c.in_ok-olds.ensures.read, c.in_ok-olds.ensures.fit, split) c.in_ok-test_all.ensures.tested (subst (λ (l : List Streams). IsFirstAbove c.args.cap full.0 l) c.deref.ensures.value full.2) in
    rw (p.1, p.2) (subst (λ (e : SplitFault). IsCause g.D.Disk.sight g.D.Disk.follows e c.args.cap c.args.old.now.items c.read_all.new.old.items new.items c.test_all.new.new.items) (sym full.1) cause)

pub returns-clause-split : goal.returns-clause-split
returns-clause-split g c =
    let olds = c.in_ok-olds.olds.items in
    let news = c.in_ok-news.news.items in
    let new = c.args.new.now in
    let mid = c.test_all.new.new in
    let m = vec_len mid in
    let many : c.len-count.result ≡ m = c.len-count.ensures ∙ sym c.test_all.ensures.len in
    let split = split_at (vec_len c.in_ok-olds.olds) c.len-count.result (vec_len c.args.old.now) m olds news c.in_ok-olds.ensures.images many c.in_ok-news.ensures.split in
    let long : length c.deref.result.now ≡ m = ap (λ (l : List Streams). length l) c.deref.ensures.value ∙ (sym c.in_ok-news.news.ok.0 ∙ (c.in_ok-news.ensures.len ∙ many)) in
    let small = subst (λ (l : List Streams). HaveRoomWithin c.args.cap m l) c.deref.ensures.value (subst (λ (k : ℕ). HaveRoomWithin c.args.cap k c.deref.result.now) long c.in_ok-test_rooms.ensures.ok) in
    let begun = subst (λ (l : List Streams). OnOk c.start_all.result (EachPair (λ s given made. IsShardBegun g.D.Disk.sight g.D.Disk.follows (place_of s m) given made (map_at l s)) mid.items c.start_all.new.new.items)) c.deref-2.ensures.value c.start_all.ensures.begun in
    finished_if_ok g.D.Disk.sight g.D.Disk.follows c.start_all.result (vec_len c.args.old.now) m c.args.cap olds news c.args.old.now.items c.read_all.new.old.items new.items mid.items c.start_all.new.new.items c.args.old.now.ok.0
    (c.test_all.ensures.len ∙ new.ok.0) (sym mid.ok.0 ∙ (c.test_all.ensures.len ∙ new.ok.0)) (c.in_ok-olds.ensures.read, c.in_ok-olds.ensures.fit, split) small c.in_ok-test_all.ensures.tested begun

pub returns-in_err-news-clause-cause : goal.returns-in_err-news-clause-cause
returns-in_err-news-clause-cause g c =
    let p = err_from_is_err_and c.from_residual-in_err-news.result c.from_residual-in_err-news.ensures.1 in
    rw (p.1, p.2) ((λ s lt. (c.in_ok-olds.ensures.read s lt).not_failed), (λ s lt. (c.in_ok-test_all.ensures.tested s lt).not_failed))

pub returns-clause-cause : goal.returns-clause-cause
returns-clause-cause g c =
    let new = c.args.new.now in
    let mid = c.test_all.new.new in
    cause_if_err g.D.Disk.sight g.D.Disk.follows c.start_all.result (vec_len mid) c.args.cap c.args.old.now.items c.read_all.new.old.items new.items mid.items c.start_all.new.new.items
    (c.test_all.ensures.len ∙ new.ok.0) (sym mid.ok.0 ∙ (c.test_all.ensures.len ∙ new.ok.0)) (old_read g.D.Disk.sight g.D.Disk.follows (vec_len c.args.old.now) c.in_ok-olds.olds.items c.args.old.now.items c.read_all.new.old.items c.args.old.now.ok.0 c.in_ok-olds.ensures.read) c.in_ok-test_all.ensures.tested c.start_all.ensures.before c.start_all.ensures.fault

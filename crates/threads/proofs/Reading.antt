-- What a read of no time is answered, and where its call belongs where there is one shard.
use Rattle.std.proofs.Common.{◌≡◌, ◌+◌, ℕ, List, [], ◌∷◌, Bool, false, cond, ◌&&◌, refl, ap, ◌∙◌, arith}
use Rattle.std.specs.Prelude.{nat_le, true}
use borrow.Author.Tests.{le-ltb}
use Rattle.std.specs.List.{filter}
use Rattle.labels.specs.declared.key.StreamKey.{StreamKey}
use Rattle.entries.specs.declared.entry.Entry.{Entry}
use Rattle.accept.specs.declared.call.Call.{Call}
use Rattle.accept.specs.declared.call.Call.TheVariants.{Read}
use Rattle.accept.specs.declared.call.Reply.TheVariants.{Entries, Unavailable}
use Rattle.accept.specs.declared.history.Ask.{Ask}
use Rattle.accept.specs.declared.history.Item.{Item}
use Rattle.entries.specs.ByTime.{between, by_time}
use Rattle.accept.specs.OneStream.{base_kept}
use Rattle.accept.specs.Histories.{is_marked, stream_of}
use Rattle.history.specs.declared.views.About.{About}
use Rattle.history.specs.Histories.{reply_of, history_of, shard_in}
use Rattle.history.proofs.Sharding.{shard_below}
use Rattle.threads.specs.Reads.{ReadsNothing}

none_below : (b : Bool) → (b && false) ≡ false
none_below true = refl
none_below false = refl

nothing_read : (es : List Entry) → filter (between 0 0) es ≡ []
nothing_read [] = refl
nothing_read (e ∷ es) =
    let no : between 0 0 e ≡ false = ap (λ b. nat_le 0 e.time && b) (le-ltb e.time 0 (omega arith)) ∙ none_below (nat_le 0 e.time) in
    ap (λ b. cond b (e ∷ filter (between 0 0) es) (filter (between 0 0) es)) no ∙ nothing_read es

read_nothing : (about : About) (k : ℕ) (items : List Item) (key : StreamKey) → is_marked items ≡ false → reply_of about k items (Read key 0 0) ≡ Entries []
unfolding reply_of
read_nothing about k items key e =
    let kept = base_kept (stream_of (history_of about k items) key) in
    ap (λ b. cond b Unavailable (Entries (by_time (filter (between 0 0) kept)))) e ∙ ap (λ l. Entries (by_time l)) (nothing_read kept)

-- a read of no time has no entry
pub reply_nothing : (about : About) (k : ℕ) (items : List Item) (call : Call) → ReadsNothing call → is_marked items ≡ false → reply_of about k items call ≡ Entries []
reply_nothing about k items call read e = ap (reply_of about k items) read.1 ∙ read_nothing about k items read.0 e

-- where there is one shard, each call is its
pub first_shard : (about : About) (a : Ask) → about.shards ≡ 1 → shard_in about a ≡ 0
first_shard about a one = let b = shard_below about a (omega arith) in omega arith

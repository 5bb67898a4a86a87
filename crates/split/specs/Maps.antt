-- The streams of shards, and the same streams under another number of shards.
use Rattle.std.specs.Prelude.{◌≡◌, ◌<◌, ◌≤◌, ◌==◌, ℕ, List, length, set, slice_index_or, Some, None, IsSome, if◌then◌else◌}
use Rattle.std.specs.List.{fold}
use Rattle.std.specs.FinMap as finite
use Rattle.labels.specs.declared.key.StreamKey.{StreamKey}
use Rattle.labels.specs.Shards.{shard}
use Rattle.accept.specs.declared.image.StreamImage.{StreamImage}
use Rattle.accept.specs.Rooms.{Streams, room}
use Rattle.accept.specs.Histories.{set_stream}
use Rattle.segment.specs.ShardPlaces.{place_of}
use Rattle.segment.specs.Fitting.{FitStreams}

-- of a list of maps the map of a shard
abbrev pub map_at : List Streams → ℕ → Streams
map_at maps s = slice_index_or maps s finite.empty

-- among n shards each key stands in the map of its own
abbrev pub AreApart : ℕ → (ℕ → Streams) → Type 0
AreApart n maps = (s : ℕ) (k : StreamKey) → s < n → IsSome (finite.get (maps s) k) → shard k n ≡ s

-- m maps have the streams of n maps: each key stands in the map of its new shard alone, with what it had in that of its
-- old one
abbrev pub IsSplit : ℕ → ℕ → (ℕ → Streams) → (ℕ → Streams) → Type 0
IsSplit n m olds news = (s : ℕ) (k : StreamKey) → s < m → finite.get (news s) k
    ≡ (if shard k m == s then finite.get (olds (shard k n)) k else None)

-- ---- how streams are dealt

-- a stream goes to the map of its shard among m
abbrev pub put_in_map : ℕ → List Streams → StreamKey × StreamImage → List Streams
put_in_map m maps e = set maps (shard e.0 m) (set_stream (map_at maps (shard e.0 m)) e.0 (Some e.1))

-- so does each stream of a map, and of each of some maps
abbrev pub dealt : ℕ → List Streams → Streams → List Streams
dealt m maps old = fold (put_in_map m) maps (finite.entries old)

abbrev pub all_dealt : ℕ → List Streams → List Streams → List Streams
all_dealt m maps olds = fold (dealt m) maps olds

-- each map has streams that its shard among n can hold, and so much room at most
abbrev pub AreFit : ℕ → List Streams → Type 0
AreFit n maps = (s : ℕ) → s < n → FitStreams (place_of s n) (map_at maps s)

abbrev pub HaveRoomWithin : ℕ → ℕ → List Streams → Type 0
HaveRoomWithin bound n maps = (s : ℕ) → s < n → room (map_at maps s) ≤ bound

-- this is the first map that takes more room
pub record IsFirstAbove (cap s : ℕ) (maps : List Streams) : Type 0 where
  pub within : s < length maps
  pub full : cap < room (map_at maps s)
  pub before : (i : ℕ) → i < s → room (map_at maps i) ≤ cap

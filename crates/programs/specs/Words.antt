-- The words that programs are given.
use Rattle.std.specs.Prelude.{codes, ℕ, ◌≡◌, ◌⊎◌, ◌≤◌, ◌<◌, IsTrue, IfOk, List, [], ◌∷◌, Option, None, Some, String, string_bytes}
use Rattle.std.specs.Str.Parse.{digits_value}
use Rattle.std.specs.declared.alloc.Global.{Global}
use Rattle.labels.specs.Shards.{max_shards}
use Rattle.labels.specs.Tenants.{is_tenant}
use Rattle.pushjson.specs.Times.{IsTime}
use Rattle.requests.specs.declared.route.Route.{Route}
use Rattle.requests.specs.declared.route.Route.TheVariants.{Push, Read, Trim}
use Rattle.programs.specs.declared.said.ShardWords.{ShardWords}
use Rattle.programs.specs.declared.said.ServerWords.{ServerWords}
use Rattle.programs.specs.declared.said.CallWords.{CallWords}

-- the number that decimal digits write
abbrev pub value : List ℕ → ℕ
value text = digits_value 10 text

-- a number of 1 to 19 digits, within these bounds
abbrev pub IsNumberIn : ℕ → ℕ → List ℕ → Type 0
IsNumberIn least most text = IsTime text × (least ≤ value text) × (value text ≤ most)

-- two numbers, of 1 to 19 digits each: a shard's, and among how many it is, 1 to 64
abbrev pub NameShard : List ℕ → List ℕ → Type 0
NameShard shard count = IsTime shard × IsTime count × (1 ≤ value count) × (value count ≤ max_shards)
    × (value shard < value count)

-- three words: a file, a shard's number, and the number of shards
pub record GiveShard (words : List (String Global)) : Type 0 where
  pub file : String Global
  pub shard : String Global
  pub count : String Global
  pub words_are : words ≡ file ∷ shard ∷ count ∷ []
  pub named : NameShard (string_bytes shard) (string_bytes count)

-- the place that they say
pub record SaysPlace (words : List (String Global)) (place : ShardWords) : Type 0 where
  pub given : GiveShard words
  pub shard_is : place.shard ≡ value (string_bytes given.shard)
  pub count_is : place.count ≡ value (string_bytes given.count)

-- one word, which is a time
abbrev pub GiveClock : List (String Global) → Type 0
GiveClock words = (word : String Global) × (words ≡ word ∷ []) × IsTime (string_bytes word)

-- the time that it says
abbrev pub SaysClock : List (String Global) → ℕ → Type 0
SaysClock words now = (given : GiveClock words) × (now ≡ value (string_bytes given.0))

-- a port, 1 to 64 shards and 1 to 64 workers
abbrev pub NameServer : List ℕ → List ℕ → List ℕ → Type 0
NameServer port shards workers = IsNumberIn 0 65535 port × IsNumberIn 1 max_shards shards
    × IsNumberIn 1 max_shards workers

-- nothing, or after how many connections the server ends
abbrev pub IsLimit : List (String Global) → Type 0
IsLimit [] = Unit {0}
IsLimit (limit ∷ []) = IsNumberIn 1 4294967295 (string_bytes limit)
IsLimit (limit ∷ more ∷ rest) = ⊥

-- a folder, what names a server, and perhaps a limit
pub record GiveServer (words : List (String Global)) : Type 0 where
  pub folder : String Global
  pub port : String Global
  pub shards : String Global
  pub workers : String Global
  pub limit : List (String Global)
  pub words_are : words ≡ folder ∷ port ∷ shards ∷ workers ∷ limit
  pub named : NameServer (string_bytes port) (string_bytes shards) (string_bytes workers)
  pub limited : IsLimit limit

-- what names a server says of it
pub record SaysOfServer (folder port shards workers : List ℕ) (connections : Option ℕ)
    (server : ServerWords) : Type 0 where
  pub folder_is : server.folder.now ≡ folder
  pub port_is : server.port ≡ value port
  pub shards_are : server.shards ≡ value shards
  pub workers_are : server.workers ≡ value workers
  pub connections_are : server.connections ≡ connections

-- after how many connections it ends, where that is said
abbrev pub connections_of : List (String Global) → Option ℕ
connections_of [] = None
connections_of (limit ∷ more) = Some (value (string_bytes limit))

-- the server that the words say
pub record SaysServer (words : List (String Global)) (server : ServerWords) : Type 0 where
  pub given : GiveServer words
  pub says : SaysOfServer (string_bytes given.folder) (string_bytes given.port)
      (string_bytes given.shards)
      (string_bytes given.workers) (connections_of given.limit) server

-- what is asked for
abbrev pub verb_of : Route → List ℕ
verb_of Push = codes "push"
verb_of Read = codes "read"
verb_of Trim = codes "trim"

abbrev pub IsVerb : List ℕ → Type 0
IsVerb verb = (verb ≡ codes "push") ⊎ ((verb ≡ codes "read") ⊎ (verb ≡ codes "trim"))

-- what is asked for, of 1 to 64 shards, by a lawful tenant, at a time
abbrev pub NameCall : List ℕ → List ℕ → List ℕ → List ℕ → Type 0
NameCall verb shards tenant now = IsVerb verb × IsNumberIn 1 max_shards shards
    × IsTrue (is_tenant tenant) × IsTime now

-- five words: what is asked for, a folder, the number of shards, a tenant, and the clock
pub record GiveCall (words : List (String Global)) : Type 0 where
  pub verb : String Global
  pub folder : String Global
  pub shards : String Global
  pub tenant : String Global
  pub now : String Global
  pub words_are : words ≡ verb ∷ folder ∷ shards ∷ tenant ∷ now ∷ []
  pub named : NameCall (string_bytes verb) (string_bytes shards) (string_bytes tenant)
      (string_bytes now)

-- what names a call says of it, where there is memory for its tenant's name
pub record SaysOfCall (verb folder shards tenant now : List ℕ) (call : CallWords) : Type 0 where
  pub route_is : verb_of call.route ≡ verb
  pub folder_is : call.folder.now ≡ folder
  pub shards_are : call.shards ≡ value shards
  pub tenant_is : IfOk call.tenant (λ name. name ≡ tenant)
  pub now_is : call.now ≡ value now

-- the call that the words say
pub record SaysCall (words : List (String Global)) (call : CallWords) : Type 0 where
  pub given : GiveCall words
  pub says : SaysOfCall (string_bytes given.verb) (string_bytes given.folder)
      (string_bytes given.shards)
      (string_bytes given.tenant) (string_bytes given.now) call

-- what the environment says of a slot's bytes: nothing, or 4,096 to 2^30 of them
abbrev pub GivesCapacity : Option (List ℕ) → Type 0
GivesCapacity None = Unit {0}
GivesCapacity (Some text) = IsNumberIn 4096 1073741824 text

-- how many bytes it gives a slot
abbrev pub capacity_of : Option (List ℕ) → ℕ
capacity_of None = 67108864
capacity_of (Some text) = value text

-- what the environment says of open connections: nothing, or 1 to 1,000,000 of them
abbrev pub GivesOpen : Option (List ℕ) → Type 0
GivesOpen None = Unit {0}
GivesOpen (Some text) = IsNumberIn 1 1000000 text

-- how many may be open
abbrev pub open_of : Option (List ℕ) → ℕ
open_of None = 10000
open_of (Some text) = value text

-- what it says of the bytes of requests that have not come whole: nothing, or a head and a body of the greatest length,
-- to 2^40
abbrev pub GivesHalfSent : Option (List ℕ) → Type 0
GivesHalfSent None = Unit {0}
GivesHalfSent (Some text) = IsNumberIn 4210688 1099511627776 text

-- how many may be held
abbrev pub half_sent_of : Option (List ℕ) → ℕ
half_sent_of None = 268435456
half_sent_of (Some text) = value text

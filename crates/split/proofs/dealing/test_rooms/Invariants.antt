use Rattle.split.specs.Maps.{HaveRoomWithin}
use Rattle.split.proofs.dealing.test_rooms.Given as goal

abbrev pub invariant-loop-shard : goal.invariant-loop-shard
invariant-loop-shard l = HaveRoomWithin l.cap l.shard l.news

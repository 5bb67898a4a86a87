use Rattle.std.proofs.Common.{rules, ◌≡◌, ℕ, suc, ◌+◌, ◌<◌, ◌≤◌, add-zero, ◌++◌, ◌∷◌, length, map, refl, ap, sym, ◌∙◌, subst, arith, vec_len}
use Rattle.std.specs.VecDeque.{deque_len, deque_capacity}
use Rattle.std.proofs.lemmas.List.{nil_from_length}
use Rattle.wal.specs.Opening.{disks}
use Rattle.ingester.specs.Makings.{AreShardsIn, AreShardsOfLogs, logs_of_shards}
use Rattle.ingester.proofs.Grounding.{partly_none, partly_more, partly_all, partly_back, ground_popped, back_fit, shards_fit, log_fits, logs_fit}
use Rattle.ingester.proofs.Making.{books_behind, shards_in}
use Rattle.ingester.proofs.building.make_shards.Goals as goal

fewer_same : (had logs fewer left : ℕ) → had ≡ logs → fewer + 1 ≡ had → left + 1 ≡ logs → fewer ≡ left
fewer_same had logs fewer left same one other = omega arith

one_more : (logs left shards more all : ℕ) → logs + shards ≡ all → left + 1 ≡ logs → more ≡ shards + 1 → left + more ≡ all
one_more logs left shards more all so_far popped pushed = omega arith

has_place : (logs left shards all room : ℕ) → left + 1 ≡ logs → logs + shards ≡ all → all ≤ room → shards < room
has_place logs left shards all room popped so_far much = omega arith

all_made : (logs shards all made : ℕ) → logs ≡ 0 → logs + shards ≡ all → made ≡ shards → made ≡ all
all_made logs shards all made none so_far same = omega arith

one_fewer : (logs left : ℕ) → left + 1 ≡ logs → suc left ≤ logs
one_fewer logs left popped = omega arith

pub loop-log-init : goal.loop-log-init
loop-log-init g c = record {
  ground = c.requires.ground;
  images = c.requires.lens.0;
  books = c.requires.lens.1;
  partly = partly_none c.args.shards.items c.args.ground.logs.items c.args.ground.books.items c.requires.shards.0;
  slots = refl;
  made = ap (λ (n : ℕ). vec_len c.args.ground.logs + n) c.requires.shards.1 ∙ add-zero (vec_len c.args.ground.logs);
  room = c.requires.shards.2;
}

pub make_one-requires-clause-ground : goal.make_one-requires-clause-ground
make_one-requires-clause-ground g c =
    let inv = c.loop-log.invariant in
    let images = sym c.pop-in-Some.new.self.ok.0 ∙ (fewer_same _ _ _ _ inv.images c.in-Some-pop.ensures.len c.in-Some.ensures.len ∙ c.pop.new.self.ok.0) in
    let books = sym c.pop-in-Some-2.new.self.ok.0 ∙ (fewer_same _ _ _ _ inv.books c.in-Some-pop-2.ensures.len c.in-Some.ensures.len ∙ c.pop.new.self.ok.0) in
    (ground_popped g.D.Disk.sight g.D.Disk.follows c.args.ground.limits _ c.pop.new.self.items _ c.pop-in-Some.new.self.items _ c.pop-in-Some-2.new.self.items c.in-Some.log c.in-Some-pop.image c.in-Some-pop-2.book inv.ground
    c.in-Some.ensures.items c.in-Some-pop.ensures.items c.in-Some-pop-2.ensures.items images books).0

pub return_shards-requires : goal.return_shards-requires
return_shards-requires g c =
    let inv = c.loop-log.invariant in
    let same = c.in-Err.ensures.err.1 in
    let fit = back_fit (vec_len c.loop-log.logs) (c.into_vec.ensures.len ∙ ap (λ d. deque_len d) same) (ap (λ d. deque_len d) inv.slots) (ap (λ d. deque_capacity d) inv.slots) inv.made c.requires.slots in
    let made = shards_in c.args.history _ _ _ inv.partly.made (books_behind c.args.history c.args.ground.books.items _ inv.partly.made_books inv.partly.books_are c.requires.table) in
    (search rules, (shards_fit (vec_len c.loop-log.logs) fit, subst (λ t. AreShardsIn t c.into_vec.result.items) (sym c.end-ended.ensures) (subst (AreShardsIn c.args.history) (sym (c.into_vec.ensures.items ∙ ap (λ d. d.items) same)) made)))

pub push_front_reserved-requires : goal.push_front_reserved-requires
push_front_reserved-requires g c =
    let inv = c.loop-log.invariant in
    let same = c.in-Err.ensures.err.1 in
    let fit = back_fit (vec_len c.loop-log.logs) (c.into_vec.ensures.len ∙ ap (λ d. deque_len d) same) (ap (λ d. deque_len d) inv.slots) (ap (λ d. deque_capacity d) inv.slots) inv.made c.requires.slots in
    let back = c.return_shards.ensures in
    log_fits (vec_len c.pop.new.self) c.in-Some.ensures.len back.len back.capacity fit

pub give_back-requires : goal.give_back-requires
give_back-requires g c =
    let inv = c.loop-log.invariant in
    let same = c.in-Err.ensures.err.1 in
    let fit = back_fit (vec_len c.loop-log.logs) (c.into_vec.ensures.len ∙ ap (λ d. deque_len d) same) (ap (λ d. deque_len d) inv.slots) (ap (λ d. deque_capacity d) inv.slots) inv.made c.requires.slots in
    let back = c.return_shards.ensures in
    let front = c.push_front_reserved.ensures in
    (search rules, logs_fit (vec_len c.pop.new.self) c.in-Some.ensures.len back.len front.len (front.capacity ∙ back.capacity) fit)

pub returns-in-Err-clause-unmade : goal.returns-in-Err-clause-unmade
returns-in-Err-clause-unmade g c =
    let inv = c.loop-log.invariant in
    let err = c.in-Err.ensures.err in
    let shards = c.into_vec.ensures.items ∙ ap (λ d. d.items) err.1 in
    let slots = ap (λ d. d.items) inv.slots in
    partly_back c.loop-log.shards.items c.loop-log.logs.items c.pop.new.self.items c.args.ground.logs.items c.loop-log.books.items c.args.ground.books.items c.in-Some.log c.in-Err.log c.args.slots.now.items _ _ _ inv.partly c.in-Some.ensures.items err.0
    (c.return_shards.ensures.items ∙ (λ i. map disks (logs_of_shards (shards i)) ++ slots i)) (c.push_front_reserved.ensures.items ∙ ap (λ s. s ∷ c.return_shards.new.slots.items) c.into_slots.ensures) c.give_back.ensures.items

pub loop-log-preserved : goal.loop-log-preserved
loop-log-preserved g c =
    let inv = c.loop-log.invariant in
    let popped = c.in-Some.ensures.len in
    let images = fewer_same _ _ _ _ inv.images c.in-Some-pop.ensures.len popped in
    let books = fewer_same _ _ _ _ inv.books c.in-Some-pop-2.ensures.len popped in
    let did = c.in_default-make_one.ensures in
    record {
      ground = (ground_popped g.D.Disk.sight g.D.Disk.follows c.args.ground.limits _ c.pop.new.self.items _ c.pop-in-Some.new.self.items _ c.pop-in-Some-2.new.self.items c.in-Some.log c.in-Some-pop.image c.in-Some-pop-2.book inv.ground
          c.in-Some.ensures.items c.in-Some-pop.ensures.items c.in-Some-pop-2.ensures.items (sym c.pop-in-Some.new.self.ok.0 ∙ (images ∙ c.pop.new.self.ok.0)) (sym c.pop-in-Some-2.new.self.ok.0 ∙ (books ∙ c.pop.new.self.ok.0))).1;
      images = images;
      books = books;
      partly = partly_more c.loop-log.shards.items c.make_one.new.shards.items c.loop-log.logs.items c.pop.new.self.items c.args.ground.logs.items c.loop-log.books.items c.pop-in-Some-2.new.self.items c.args.ground.books.items c.in-Some.log c.in-Some-pop-2.book
          inv.partly c.in-Some.ensures.items c.in-Some-pop-2.ensures.items did.made;
      slots = inv.slots;
      made = one_more _ _ _ _ _ inv.made popped did.len;
      room = subst (λ n. vec_len c.args.ground.logs ≤ n) (sym did.capacity) inv.room;
    }

pub returns-clause-made : goal.returns-clause-made
returns-clause-made g c =
    let inv = c.loop-log.invariant in
    let none = c.in_default.ensures.cases.0 in
    let no_logs : length c.loop-log.logs.items ≡ 0 = sym c.loop-log.logs.ok.0 ∙ none in
    let no_books : length c.loop-log.books.items ≡ 0 = sym c.loop-log.books.ok.0 ∙ (inv.books ∙ none) in
    subst (λ s. AreShardsOfLogs s c.args.ground.logs.items c.args.ground.books.items) (sym c.into_vec-2.ensures.items)
    (partly_all c.loop-log.shards.items c.loop-log.logs.items c.args.ground.logs.items c.loop-log.books.items c.args.ground.books.items inv.partly (nil_from_length _ no_logs) (nil_from_length _ no_books))

pub make_one-requires-clause-room : goal.make_one-requires-clause-room
make_one-requires-clause-room g c =
    let inv = c.loop-log.invariant in
    has_place _ _ _ _ _ c.in-Some.ensures.len inv.made inv.room

pub returns-clause-room : goal.returns-clause-room
returns-clause-room g c =
    let inv = c.loop-log.invariant in
    (inv.slots, all_made _ _ _ _ c.in_default.ensures.cases.0 inv.made c.into_vec-2.ensures.len)

pub loop-log-smaller : goal.loop-log-smaller
loop-log-smaller g c = one_fewer _ _ c.in-Some.ensures.len

pub returns-in-Err-clause-made : goal.returns-in-Err-clause-made
returns-in-Err-clause-made g c = tt

pub returns-in-Err-clause-same : goal.returns-in-Err-clause-same
returns-in-Err-clause-same g c = tt

pub returns-in-Err-clause-room : goal.returns-in-Err-clause-room
returns-in-Err-clause-room g c = tt

pub returns-clause-same : goal.returns-clause-same
returns-clause-same g c = refl

pub returns-clause-unmade : goal.returns-clause-unmade
returns-clause-unmade g c = tt

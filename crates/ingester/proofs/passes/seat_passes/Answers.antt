use Rattle.std.proofs.Common.{◌≡◌, ◌+◌, List, [], ◌∷◌, ◌++◌, length, length-append, append_assoc, sym, ap, ◌∙◌, subst, arith}
use Rattle.std.proofs.lemmas.List.{nil_from_length}
use Rattle.history.specs.Handles.{Passed}
use Rattle.owners.specs.Lists.{AreEach}
use Rattle.owners.specs.QueueEnds.{IsRow, IsSeatAt}
use Rattle.owners.proofs.Each.{each_first}
use Rattle.ingester.proofs.passes.seat_passes.Goals as goal

pub loop-seat-init : goal.loop-seat-init
loop-seat-init c =
    let empty : length c.args.passes.items ≡ 0 = sym c.args.passes.ok.0 ∙ c.requires.room.0 in
    let seats = c.from_vec-seats.ensures in
    let rows = c.from_vec-rows.ensures in
    record {
      items = ap (λ (l : List Passed). l ++ c.from_vec-seats.result.items) (nil_from_length c.args.passes.items empty) ∙ seats.items;
      seats = λ home are. subst (λ n. AreEach (IsSeatAt home) n c.from_vec-seats.result.items) (sym empty) (subst (AreEach (IsSeatAt home) 0) (sym seats.items) are);
      rows = λ home are. subst (λ n. AreEach (λ p row. IsRow home home.about.shards p row.items) n c.from_vec-rows.result.items) (sym empty) (subst (AreEach (λ p row. IsRow home home.about.shards p row.items) 0) (sym rows.items) are);
      same = rows.len ∙ (c.requires.same ∙ sym seats.len);
      room = let none = c.requires.room.0 in let much = c.requires.room.1 in let many = seats.len in omega arith;
    }

pub loop-seat-preserved : goal.loop-seat-preserved
loop-seat-preserved c =
    let inv = c.loop-seat.invariant in
    let was = c.loop-seat.passes.items in
    let seat = c.in-Some.seat in
    let pushed = c.push_reserved.ensures in
    let long : length c.push_reserved.new.self.items ≡ length was + 1 = ap length pushed.items ∙ length-append was (seat ∷ []) in
    record {
      items = ap (λ (l : List Passed). l ++ c.pop_front.new.self.items) pushed.items ∙ (append_assoc was (seat ∷ []) c.pop_front.new.self.items ∙ (ap (λ (l : List Passed). was ++ l) (sym c.in-Some.ensures.items) ∙ inv.items));
      seats = λ home are.
          let seats = each_first (IsSeatAt home) (length was) c.loop-seat.seats.items c.pop_front.new.self.items seat c.in-Some.ensures.items (inv.seats home are) in
          subst (λ n. AreEach (IsSeatAt home) n c.pop_front.new.self.items) (sym long) seats.1;
      rows = λ home are.
          let rows = each_first (λ p row. IsRow home home.about.shards p row.items) (length was) c.loop-seat.rows.items c.pop_front-in-Some.new.self.items c.in-Some-pop_front.routes c.in-Some-pop_front.ensures.items (inv.rows home are) in
          subst (λ n. AreEach (λ p row. IsRow home home.about.shards p row.items) n c.pop_front-in-Some.new.self.items) (sym long) rows.1;
      same = let one = c.in-Some.ensures.cases in let two = c.in-Some-pop_front.ensures.cases in let had = inv.same in omega arith;
      room = let one = c.in-Some.ensures.cases in let more = pushed.len in let cap = pushed.capacity in let had = inv.room in omega arith;
    }

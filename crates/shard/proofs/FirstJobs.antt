-- What a job more makes of the group that is gathered.
use Rattle.std.proofs.Common.{◌≡◌, ℕ, suc, ◌+◌, ◌<◌, ◌≤◌, List, [], ◌∷◌, ◌++◌, Some, None, length, length-append, refl, sym, ap, ◌∙◌, subst, arith, append_assoc, ◌≢◌}
use Rattle.std.specs.VecDeque.{deque_len, deque_capacity}
use Rattle.accept.specs.declared.call.Call.{Call}
use Rattle.accept.specs.declared.call.Reply.{Reply}
use Rattle.disk.specs.Sight.{Sight}
use Rattle.history.specs.Handles.{Announced}
use Rattle.shard.specs.declared.first_jobs.GroupEnd.{GroupEnd}
use Rattle.shard.specs.declared.first_jobs.GroupEnd.TheVariants.{Full}
use Rattle.shard.specs.declared.first_jobs.Job.{Job}
use Rattle.shard.specs.declared.group.Group.{Group}
use Rattle.shard.specs.declared.parts.Parts.{Parts}
use Rattle.shard.specs.Queues.{Waiting, waiting_in, AreMatched, tickets_in}
use Rattle.streams.specs.declared.change.Rest.{Rest}
use Rattle.streams.specs.Changes.{call_given}
use Rattle.streams.specs.Mapped.{Mapped}
use Rattle.shard.specs.Adding.{IsGroup, waiting_of, HasPlaces, HasJoinedGroup}
use Rattle.shard.specs.FirstJobs.{EndsGathering, HasGathered}
use Rattle.shard.specs.Judging.{IsTooLong, IsFullFor, IsUntouched}
use Rattle.shard.specs.Jobs.{max_turn, tickets_of, AreLawful}
use Rattle.shard.proofs.Joining.{none_joins}

-- of numbers
pub fits_under : (n len room : ℕ) → len ≡ n → len < 64 → 64 ≤ room → n < room
fits_under n len room same under much = omega arith

pub under : (n len : ℕ) → len ≡ n → len < 64 → n < 64
under n len same less = omega arith

pub fewer_fit : (n long few len judged cap : ℕ) → n ≡ few → few ≤ long → judged ≡ long → len ≡ judged → len < 64 → 64 ≤ cap → n < cap
fewer_fit n long few len judged cap these fewer those same under much = omega arith

pub none_fit : (n cap : ℕ) → n ≡ 0 → 64 ≤ cap → n < cap
none_fit n cap none much = omega arith

pub one_fewer : (fewer n : ℕ) → fewer + 1 ≡ n → suc fewer ≤ n
one_fewer fewer n e = omega arith

pub at_most : (n len : ℕ) → len ≡ n → 64 ≤ len → n ≤ 64 → n ≡ 64
at_most n len same over few = omega arith

pub not_empty : (j : Job) (rest jobs : List Job) → jobs ≡ j ∷ rest → jobs ≢ []
not_empty j rest jobs is none = let both = sym is ∙ none in cc

-- no more calls change something than are judged
pub matched_fewer : (js : List Waiting) (ts : List Announced) → AreMatched js ts → length ts ≤ length js
matched_fewer [] [] m = omega arith
matched_fewer [] (t ∷ ts) m = absurd m
matched_fewer ((Some t, r) ∷ js) ts m = let few = matched_fewer js ts m.1 in omega arith
matched_fewer ((None, r) ∷ js) [] m = absurd m
matched_fewer ((None, r) ∷ js) (t ∷ ts) m = let few = matched_fewer js ts m.1 in omega arith

tickets_more : (ws : List (Announced × Reply)) (t : Announced) (r : Reply) → tickets_in (ws ++ (t, r) ∷ []) ≡ tickets_in ws ++ t ∷ []
tickets_more [] t r = refl
tickets_more (w ∷ ws) t r = ap (λ (l : List Announced). w.0 ∷ l) (tickets_more ws t r)

-- the tickets of the group and of the jobs after it stay the same where the first job joins
pub split_next : (ws new : List (Announced × Reply)) (t : Announced) (r : Reply) (jobs rest all : List Announced) → new ≡ ws ++ (t, r) ∷ [] → jobs ≡ t ∷ rest → tickets_in ws ++ jobs ≡ all → tickets_in new ++ rest ≡ all
split_next ws new t r jobs rest all joined first is =
    ap (λ (l : List (Announced × Reply)). tickets_in l ++ rest) joined
    ∙ (ap (λ (l : List Announced). l ++ rest) (tickets_more ws t r)
    ∙ (append_assoc (tickets_in ws) (t ∷ []) rest
    ∙ (ap (λ (l : List Announced). tickets_in ws ++ l) (sym first)
    ∙ is)))

pub waiting_length : (js : List Waiting) (ts : List Announced) → AreMatched js ts → length (waiting_in js ts) ≡ length js
waiting_length [] [] m = refl
waiting_length [] (t ∷ ts) m = absurd m
waiting_length ((Some t, r) ∷ js) ts m = ap suc (waiting_length js ts m.1)
waiting_length ((None, r) ∷ js) [] m = absurd m
waiting_length ((None, r) ∷ js) (t ∷ ts) m = ap suc (waiting_length js ts m.1)

-- this many tickets as calls
pub tickets_length : (ws : List (Announced × Reply)) → length (tickets_in ws) ≡ length ws
tickets_length [] = refl
tickets_length (w ∷ ws) = ap suc (tickets_length ws)

pub group_length : (group : Group) → AreMatched group.judged.items group.changing.items → length (tickets_in (waiting_of group)) ≡ deque_len group.judged
group_length group m = omega (arith, tickets_length (waiting_of group), waiting_length group.judged.items group.changing.items m, group.judged.ok.0)

same_some : (a b : Call) → Some a ≡ Some b → a ≡ b
same_some a b e = cc

pub joined_one : (group behind : Group) (t : Announced) (r : Reply) → AreMatched group.judged.items group.changing.items → AreMatched behind.judged.items behind.changing.items
    → waiting_of behind ≡ waiting_of group ++ (t, r) ∷ [] → deque_len behind.judged ≡ deque_len group.judged + 1
joined_one group behind t r m n joined =
    omega (
      arith,
      waiting_length group.judged.items group.changing.items m,
      waiting_length behind.judged.items behind.changing.items n,
      ap length joined,
      length-append (waiting_of group) ((t, r) ∷ []),
      group.judged.ok.0,
      behind.judged.ok.0,
    )

-- Of all jobs the first have joined the group, and these are left.
pub record IsGatheredFrom {D : Type 0} (sight : D → Sight) (follows : D → Type 0) (start : Parts D) (first : Group) (all : List Job) (p : Parts D) (group : Group) (jobs : List Job) : Type 0 where
  pub group_is : IsGroup sight follows p group
  pub frame : p ≡ record start { states = p.states; buffer = p.buffer }
  pub places : HasPlaces group
  pub no_fewer : deque_len first.judged ≤ deque_len group.judged
  pub split : tickets_in (waiting_of group) ++ tickets_of jobs ≡ tickets_in (waiting_of first) ++ tickets_of all
  pub lawful : AreLawful start.book.about start.book.shard jobs
  pub lens : deque_len group.judged + length jobs ≡ deque_len first.judged + length all

module _ {D : Type 0} (sight : D → Sight) (follows : D → Type 0) (start : Parts D) (first : Group) (all : List Job) where
  -- the next of them may join
  pub next_lawful : (p : Parts D) (group : Group) (j : Job) (jobs rest : List Job) → IsGatheredFrom sight follows start first all p group jobs → jobs ≡ j ∷ rest
      → AreLawful p.book.about p.book.shard (j ∷ [])
  next_lawful p group j jobs rest is popped =
      let these = subst (λ (l : List Job). AreLawful start.book.about start.book.shard l) popped is.lawful in
      subst (λ (q : Parts D). AreLawful q.book.about q.book.shard (j ∷ [])) (sym is.frame) (these.0, these.1, these.2, tt)

  -- the next of them joins
  pub front_next : (p new : Parts D) (group behind : Group) (j : Job) (jobs rest : List Job) → IsGatheredFrom sight follows start first all p group jobs
      → jobs ≡ j ∷ rest → deque_len group.judged < max_turn → HasJoinedGroup sight follows p group j new behind
      → new ≡ record p { states = new.states; buffer = new.buffer }
      → (deque_capacity behind.judged ≡ deque_capacity group.judged) × (deque_capacity behind.changing ≡ deque_capacity group.changing)
      → IsGatheredFrom sight follows start first all new behind rest
  front_next p new group behind j jobs rest is popped few added frame places =
      let more = joined_one group behind j.ticket added.reply is.group_is.matched added.group_is.matched added.waiting in
      record {
        group_is = added.group_is;
        frame = frame ∙ ap (λ (q : Parts D). record q { states = new.states; buffer = new.buffer }) is.frame;
        places = record { few = omega (arith, few, more); judged_room = omega (arith, is.places.judged_room, places.0); changing_room = omega (arith, is.places.changing_room, places.1) };
        no_fewer = omega (arith, is.no_fewer, more);
        split = split_next (waiting_of group) (waiting_of behind) j.ticket added.reply (tickets_of jobs) (tickets_of rest) (tickets_in (waiting_of first) ++ tickets_of all)
            added.waiting (ap tickets_of popped) is.split;
        lawful = (subst (λ (l : List Job). AreLawful start.book.about start.book.shard l) popped is.lawful).3;
        lens = omega (arith, is.lens, more, ap length popped);
      }

  -- no more of them join
  pub gathered : (p : Parts D) (group : Group) (jobs : List Job) (ended : GroupEnd) → IsGatheredFrom sight follows start first all p group jobs → EndsGathering p group jobs ended
      → HasGathered sight follows first (record { old = start; new = p; group = group; jobs = all; rest = jobs; ended = ended })
  gathered p group jobs ended is ends =
      record { group_is = is.group_is; frame = is.frame; places = is.places; no_fewer = is.no_fewer; split = is.split; ends = ends; lawful = is.lawful }

  -- a job that is taken away and put back as it was
  pub put_back : (p new : Parts D) (group : Group) (jobs left : List Job) → IsGatheredFrom sight follows start first all p group jobs
      → left ≡ jobs → IsUntouched p new → new ≡ record p { states = new.states; buffer = new.buffer } → IsGatheredFrom sight follows start first all new group left
  put_back p new group jobs left is same_jobs same frame =
      subst (λ (l : List Job). IsGatheredFrom sight follows start first all new group l) (sym same_jobs) (record {
        group_is = none_joins sight follows p new frame group is.group_is same;
        frame = frame ∙ ap (λ (q : Parts D). record q { states = new.states; buffer = new.buffer }) is.frame;
        places = is.places;
        no_fewer = is.no_fewer;
        split = is.split;
        lawful = is.lawful;
        lens = is.lens;
      })

  -- a job whose change was prepared, and whose block does not fit, is taken back
  pub full_back : (p mid new : Parts D) (group : Group) (j back : Job) (jobs rest left : List Job) (reply : Reply) (what : Rest) → IsGatheredFrom sight follows start first all p group jobs
      → jobs ≡ j ∷ rest → IsFullFor p j mid back.ticket reply what → mid ≡ record p { states = mid.states; buffer = mid.buffer }
      → new ≡ record mid { states = new.states } → new.states ≡ record mid.states { change = None } → Some back.call ≡ call_given mid.states.change what → left ≡ back ∷ rest
      → HasGathered sight follows first (record { old = start; new = new; group = group; jobs = all; rest = left; ended = Full })
  full_back p mid new group j back jobs rest left reply what is popped full frame taken forgot given put =
      let same_states : new.states ≡ p.states = forgot ∙ (λ i. record { owner = full.prepared.owner_is i; streams = full.prepared.streams_are i; change = sym is.group_is.no_change i }) in
      let same_call : back.call ≡ j.call = same_some back.call j.call (given ∙ full.prepared.rest_is) in
      let same_job : back ≡ j = λ i. record { ticket = full.ticket_is i; call = same_call i } in
      let same_jobs : left ≡ jobs = put ∙ (ap (λ (x : Job). x ∷ rest) same_job ∙ sym popped) in
      let whole : new ≡ record p { states = new.states; buffer = new.buffer } =
      taken ∙ (ap (λ (q : Parts D). record q { states = new.states }) frame ∙ ap (λ (q : Parts D). record p { states = new.states; buffer = q.buffer }) (sym taken)) in
      let same_bytes : new.buffer.items ≡ p.buffer.items = ap (λ (q : Parts D). q.buffer.items) taken ∙ full.same_bytes in
      let now = put_back p new group jobs left is same_jobs (same_states, same_bytes) whole in
      let ends : EndsGathering new group (j ∷ rest) Full =
      subst (λ (q : Parts D). IsTooLong q.limits q.log.wal new.states.streams j.call new.buffer.items) (sym whole)
      (subst (λ (z : Mapped × List ℕ). IsTooLong p.limits p.log.wal z.0.streams j.call z.1) (λ i. (sym same_states i, sym same_bytes i)) full.long) in
      gathered new group left Full now (subst (λ (l : List Job). EndsGathering new group l Full) (sym (same_jobs ∙ popped)) ends)

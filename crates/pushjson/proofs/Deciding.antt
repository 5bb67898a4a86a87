-- Whether a tree is that of a body, and whether the times in it are times.
use Rattle.std.proofs.Common.{◌≡◌, ◌≢◌, ◌⊎◌, inl, inr, ℕ, suc, ◌<◌, ◌≤◌, ◌^◌, Bool, true, false, Option, None, Some, List, [], ◌∷◌, length, map, take, codes, All, refl, ap, ◌∙◌, arith}
use Rattle.std.specs.Prelude.{HoldsAt}
use Rattle.std.specs.Str.{bytes_eq}
use Rattle.std.specs.Char.{digit_value}
use Rattle.std.specs.Str.Parse.{AllDigits, digits_value}
use Rattle.std.proofs.lemmas.Bool.{cases_order}
use Rattle.std.proofs.lemmas.Slice.Eq.{bytes_eq-Decides}
use Rattle.std.proofs.lemmas.List.Elements.{All-nil, All-cons}
use Rattle.serde_json.specs.Data.{Data, string, array, object, Items, no_items, item, Members, no_members, member}
use Rattle.serde_json.specs.View.{items_of}
use Rattle.pairs.specs.Labels.{Label}
use Rattle.pushjson.specs.Times.{IsTime}
use Rattle.pushjson.specs.Bodies.{Stream, TimedLine, labels_tree, third_tree, value_tree, stream_tree, body_tree, AreTimed, HaveTimes, IsFirstBad, IsFirstBadTime}
use Rattle.pushjson.specs.Queries.{query_tree, trim_tree}

-- the tree is that of something, or of nothing
abbrev pub Decided : {X Y : Type 0} → (Y → X) → X → Type 0
Decided {X} {Y} tree d = ((y : Y) × (d ≡ tree y)) ⊎ ((y : Y) → d ≢ tree y)

-- a fact that a test decides
pub tested : (b : Bool) (P : Type 0) → (b ≡ true → P) → (P → b ≡ true) → P ⊎ (¬ P)
tested true P there back = inl (there refl)
tested false P there back = inr (λ p. let e : false ≡ true = back p in cc)

same_text : (a b : List ℕ) → (a ≡ b) ⊎ (a ≢ b)
same_text a b = tested (bytes_eq a b) (a ≡ b) (bytes_eq-Decides a b).0 (bytes_eq-Decides a b).1

text_decided : (d : Data) → Decided string d
text_decided (string s) = inl (s, refl)
text_decided d = inr (λ y e. cc)

-- what is inside
within : {X Z Y : Type 0} (around : X → Z) → ((a b : X) → around a ≡ around b → a ≡ b) → (tree : Y → X) (x : X) → Decided tree x → Decided (λ y. around (tree y)) (around x)
within around inj tree x (inl p) = inl (p.0, ap around p.1)
within around inj tree x (inr h) = inr (λ y e. h y (inj x (tree y) e))

array_decided : {Y : Type 0} (tree : Y → Items) → ((is : Items) → Decided tree is) → (d : Data) → Decided (λ y. array (tree y)) d
array_decided tree each (array is) = within array (λ a b e. cc) tree is (each is)
array_decided tree each d = inr (λ y e. cc)

object_decided : {Y : Type 0} (tree : Y → Members) → ((ms : Members) → Decided tree ms) → (d : Data) → Decided (λ y. object (tree y)) d
object_decided tree each (object ms) = within object (λ a b e. cc) tree ms (each ms)
object_decided tree each d = inr (λ y e. cc)

-- items
no_items_of : {Y : Type 0} (tree : Y → Data) (d : Data) (ds : Items) → ((y : Y) (ys : List Y) → d ≡ tree y → ds ≡ items_of (map tree ys) → ⊥) → (ys : List Y) → item d ds ≢ items_of (map tree ys)
no_items_of tree d ds h [] = λ e. cc
no_items_of tree d ds h (y ∷ ys) = λ e. h y ys (cc) (cc)

items_by : {Y : Type 0} (tree : Y → Data) (d : Data) (ds : Items) → Decided tree d → Decided (λ ys. items_of (map tree ys)) ds → Decided (λ ys. items_of (map tree ys)) (item d ds)
items_by tree d ds (inl p) (inl q) = inl (p.0 ∷ q.0, λ i. item (p.1 i) (q.1 i))
items_by tree d ds (inr h) q = inr (no_items_of tree d ds (λ y ys first rest. h y first))
items_by tree d ds (inl p) (inr h) = inr (no_items_of tree d ds (λ y ys first rest. h ys rest))

items_decided : {Y : Type 0} (tree : Y → Data) → ((d : Data) → Decided tree d) → (ds : Items) → Decided (λ ys. items_of (map tree ys)) ds
items_decided tree each no_items = inl ([], refl)
items_decided tree each (item d ds) = items_by tree d ds (each d) (items_decided tree each ds)

item_by : {Y Z : Type 0} (tree : Y → Data) (rest : Z → Items) (d : Data) (ds : Items) → Decided tree d → Decided rest ds → Decided (λ (p : Y × Z). item (tree p.0) (rest p.1)) (item d ds)
item_by tree rest d ds (inl p) (inl q) = inl ((p.0, q.0), λ i. item (p.1 i) (q.1 i))
item_by tree rest d ds (inr h) q = inr (λ y e. h y.0 cc)
item_by tree rest d ds (inl p) (inr h) = inr (λ y e. h y.1 cc)

-- an item of one kind, and the rest
item_decided : {Y Z : Type 0} (tree : Y → Data) (rest : Z → Items) → ((d : Data) → Decided tree d) → ((is : Items) → Decided rest is) → (is : Items) → Decided (λ (p : Y × Z). item (tree p.0) (rest p.1)) is
item_decided tree rest one more no_items = inr (λ y e. cc)
item_decided tree rest one more (item d ds) = item_by tree rest d ds (one d) (more ds)

-- members
no_labels_tree : (k : List ℕ) (d : Data) (ms : Members) → ((text : List ℕ) (ps : List Label) → d ≡ string text → ms ≡ labels_tree ps → ⊥) → (ps : List Label) → member k d ms ≢ labels_tree ps
no_labels_tree k d ms h [] = λ e. cc
no_labels_tree k d ms h (p ∷ ps) = λ e. h p.1 ps (cc) (cc)

labels_by : (k : List ℕ) (d : Data) (ms : Members) → Decided string d → Decided labels_tree ms → Decided labels_tree (member k d ms)
labels_by k d ms (inl p) (inl q) = inl ((k, p.0) ∷ q.0, λ i. member k (p.1 i) (q.1 i))
labels_by k d ms (inr h) q = inr (no_labels_tree k d ms (λ text ps first rest. h text first))
labels_by k d ms (inl p) (inr h) = inr (no_labels_tree k d ms (λ text ps first rest. h ps rest))

labels_decided : (ms : Members) → Decided labels_tree ms
labels_decided no_members = inl ([], refl)
labels_decided (member k d ms) = labels_by k d ms (text_decided d) (labels_decided ms)

member_by : {Y Z : Type 0} (name k : List ℕ) (tree : Y → Data) (rest : Z → Members) (d : Data) (ms : Members) → (k ≡ name) ⊎ (k ≢ name) → Decided tree d → Decided rest ms → Decided (λ (p : Y × Z). member name (tree p.0) (rest p.1)) (member k d ms)
member_by name k tree rest d ms (inl e) (inl p) (inl q) = inl ((p.0, q.0), λ i. member (e i) (p.1 i) (q.1 i))
member_by name k tree rest d ms (inr h) p q = inr (λ y e. h cc)
member_by name k tree rest d ms (inl e) (inr h) q = inr (λ y f. h y.0 cc)
member_by name k tree rest d ms (inl e) (inl p) (inr h) = inr (λ y f. h y.1 cc)

-- a member of this name, and the rest
member_decided : {Y Z : Type 0} (name : List ℕ) (tree : Y → Data) (rest : Z → Members) → ((d : Data) → Decided tree d) → ((ms : Members) → Decided rest ms) → (ms : Members) → Decided (λ (p : Y × Z). member name (tree p.0) (rest p.1)) ms
member_decided name tree rest one more no_members = inr (λ y e. cc)
member_decided name tree rest one more (member k d ms) = member_by name k tree rest d ms (same_text k name) (one d) (more ms)

abbrev End : Unit {0} → Members
End u = no_members

end_decided : (ms : Members) → Decided End ms
end_decided no_members = inl (tt, refl)
end_decided (member k d ms) = inr (λ y e. cc)

-- a tree that is written in another way
restated : {X Y Z : Type 0} (tree : Y → X) (other : Z → X) (d : X) → Decided tree d → (f : Y → Z) (g : Z → Y) → ((y : Y) → tree y ≡ other (f y)) → ((z : Z) → other z ≡ tree (g z)) → Decided other d
restated tree other d (inl p) f g there back = inl (f p.0, p.1 ∙ there p.0)
restated tree other d (inr h) f g there back = inr (λ z e. h (g z) (e ∙ back z))

-- the trees of bodies
abbrev labels_object : List Label → Data
labels_object ps = object (labels_tree ps)

labels_object_decided : (d : Data) → Decided labels_object d
labels_object_decided d = object_decided labels_tree labels_decided d

-- what stands after the line of a value: an object of texts, or nothing
abbrev third_items : Option (List Label) → Items
third_items third = items_of (third_tree third)

no_third : (d : Data) → ((ps : List Label) → d ≢ labels_object ps) → (third : Option (List Label)) → item d no_items ≢ third_items third
no_third d h None = λ e. cc
no_third d h (Some ps) = λ e. h ps cc

no_fourth : (d e : Data) (is : Items) → (third : Option (List Label)) → item d (item e is) ≢ third_items third
no_fourth d e is None = λ f. cc
no_fourth d e is (Some ps) = λ f. cc

third_by : (d : Data) → Decided labels_object d → Decided third_items (item d no_items)
third_by d (inl p) = inl (Some p.0, ap (λ x. item x no_items) p.1)
third_by d (inr h) = inr (no_third d h)

third_decided : (is : Items) → Decided third_items is
third_decided no_items = inl (None, refl)
third_decided (item d no_items) = third_by d (labels_object_decided d)
third_decided (item d (item e is)) = inr (no_fourth d e is)

value_decided : (d : Data) → Decided value_tree d
value_decided d =
    restated _ value_tree d (array_decided _ (item_decided string _ text_decided (item_decided string third_items text_decided third_decided)) d)
    (λ p. record { time = p.0; line = p.1.0; third = p.1.1 }) (λ v. (v.time, (v.line, v.third))) (λ p. refl) (λ v. refl)

abbrev values_array : List TimedLine → Data
values_array vs = array (items_of (map value_tree vs))

values_decided : (d : Data) → Decided values_array d
values_decided d = array_decided (λ vs. items_of (map value_tree vs)) (items_decided value_tree value_decided) d

stream_decided : (d : Data) → Decided stream_tree d
stream_decided d =
    restated _ stream_tree d (object_decided _ (member_decided (codes "stream") labels_object _ labels_object_decided (member_decided (codes "values") values_array End values_decided end_decided)) d)
    (λ p. record { pairs = p.0; values = p.1.0 }) (λ s. (s.pairs, (s.values, tt))) (λ p. refl) (λ s. refl)

pub body_decided : (d : Data) → Decided body_tree d
body_decided d =
    restated _ body_tree d (object_decided _ (member_decided (codes "streams") _ End (array_decided (λ (ss : List Stream). items_of (map stream_tree ss)) (items_decided stream_tree stream_decided)) end_decided) d)
    (λ p. p.0) (λ ss. (ss, tt)) (λ p. refl) (λ ss. refl)

pub query_decided : (d : Data) → Decided query_tree d
query_decided d =
    restated _ query_tree d (object_decided _ (member_decided (codes "from") string _ text_decided (member_decided (codes "stream") labels_object _ labels_object_decided (member_decided (codes "to") string End text_decided end_decided))) d)
    (λ p. record { pairs = p.1.0; from = p.0; to = p.1.1.0 }) (λ q. (q.from, (q.pairs, (q.to, tt)))) (λ p. refl) (λ q. refl)

pub trim_decided : (d : Data) → Decided trim_tree d
trim_decided d =
    restated _ trim_tree d (object_decided _ (member_decided (codes "bound") string _ text_decided (member_decided (codes "stream") labels_object End labels_object_decided end_decided)) d)
    (λ p. record { pairs = p.1.0; bound = p.0 }) (λ t. (t.bound, (t.pairs, tt))) (λ p. refl) (λ t. refl)

-- times
pub order_decided : (a b : ℕ) → (a < b) ⊎ (b ≤ a)
order_decided a b = elim (cases_order a b) [ inl e ↦ inr (omega (arith, e)) | inr o ↦ elim o [ inl h ↦ inl h | inr h ↦ inr (omega (arith, h)) ] ]

below_decided : (a b : ℕ) → (a < b) ⊎ (¬ (a < b))
below_decided a b = elim (order_decided a b) [ inl h ↦ inl h | inr h ↦ inr (λ k. omega (arith, h, k)) ]

pub both_decided : {A B : Type 0} → A ⊎ (¬ A) → B ⊎ (¬ B) → (A × B) ⊎ (¬ (A × B))
both_decided (inl a) (inl b) = inl (a, b)
both_decided (inr h) b = inr (λ p. h p.0)
both_decided (inl a) (inr h) = inr (λ p. h p.1)

three_decided : {A B C : Type 0} → A ⊎ (¬ A) → B ⊎ (¬ B) → C ⊎ (¬ C) → (A × B × C) ⊎ (¬ (A × B × C))
three_decided (inl a) (inl b) (inl c) = inl (a, b, c)
three_decided (inr h) b c = inr (λ p. h p.0)
three_decided (inl a) (inr h) c = inr (λ p. h p.1)
three_decided (inl a) (inl b) (inr h) = inr (λ p. h p.2)

digits_decided : (ds : List ℕ) → AllDigits 10 ds ⊎ (¬ (AllDigits 10 ds))
digits_decided [] = inl tt
digits_decided (d ∷ ds) = both_decided (below_decided (digit_value d) 10) (digits_decided ds)

short_decided : (a b : ℕ) → (a ≤ b) ⊎ (¬ (a ≤ b))
short_decided a b = elim (order_decided b a) [ inl h ↦ inr (λ k. omega (arith, h, k)) | inr h ↦ inl h ]

pub time_decided : (text : List ℕ) → IsTime text ⊎ (¬ (IsTime text))
unfolding IsTime
time_decided text =
    three_decided (both_decided (below_decided 0 (length text)) (digits_decided text)) (short_decided (length text) 19) (below_decided (digits_value 10 text) (2 ^ 63))

-- the first of a list that is not as it should be, and what is wrong with it
abbrev Spoiled : {X J : Type 0} → (X → Type 0) → (J → X → Type 0) → List X → Type 0
Spoiled {X} {J} P Q xs = (i : ℕ) × (j : J) × (i < length xs) × HoldsAt (Q j) xs i × All P (take i xs)

spoiled_by : {X J : Type 0} (P : X → Type 0) (Q : J → X → Type 0) (x : X) (xs : List X) → P x ⊎ ((j : J) × Q j x) → All P xs ⊎ Spoiled P Q xs → All P (x ∷ xs) ⊎ Spoiled P Q (x ∷ xs)
spoiled_by P Q x xs (inl p) (inl a) = inl (All-cons P x xs p a)
spoiled_by P Q x xs (inl p) (inr f) = inr (suc f.0, f.1, omega (arith, f.2), f.3, All-cons P x (take f.0 xs) p f.4)
spoiled_by P Q x xs (inr q) rest = inr (0, q.0, omega arith, (λ d. q.1), All-nil P)

spoiled : {X J : Type 0} (P : X → Type 0) (Q : J → X → Type 0) → ((x : X) → P x ⊎ ((j : J) × Q j x)) → (xs : List X) → All P xs ⊎ Spoiled P Q xs
spoiled P Q each [] = inl (All-nil P)
spoiled P Q each (x ∷ xs) = spoiled_by P Q x xs (each x) (spoiled P Q each xs)

-- all times are times, or there is a first that is none
bad_in : (values : List TimedLine) → AreTimed values ⊎ ((j : ℕ) × IsFirstBad values j)
bad_in values =
    let found = spoiled (λ (v : TimedLine). IsTime v.time) (λ (_ : Unit {0}) (v : TimedLine). ¬ (IsTime v.time)) (λ v. elim (time_decided v.time) [ inl t ↦ inl t | inr n ↦ inr (tt, n) ]) values in
    elim found [ inl a ↦ inl a | inr f ↦ inr (f.0, record { within = f.2; here = f.3; earlier = f.4 }) ]

pub bad_time_in : (streams : List Stream) → HaveTimes streams ⊎ ((i : ℕ) × (j : ℕ) × IsFirstBadTime streams i j)
bad_time_in streams =
    let found = spoiled (λ (s : Stream). AreTimed s.values) (λ (j : ℕ) (s : Stream). IsFirstBad s.values j) (λ s. bad_in s.values) streams in
    elim found [ inl a ↦ inl a | inr f ↦ inr (f.0, f.1, record { within = f.2; here = f.3; earlier = f.4 }) ]

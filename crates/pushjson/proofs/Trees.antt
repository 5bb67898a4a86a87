-- Trees whose front is known to be that of what was read, and members of an object, taken one after the other.
use Rattle.std.proofs.Common.{◌≡◌, ◌≢◌, ℕ, List, [], ◌∷◌, ◌++◌, map, Less, String, Global, string_bytes, string_cmp, nat_cmp, refl, ap, sym, ◌∙◌, append_assoc, append-nil}
use Rattle.std.proofs.lemmas.List.{map-append}
use Rattle.std.specs.Cmp.Lexicographic.{slice_cmp}
use Rattle.std.specs.List.{AllByRecursion}
use Rattle.std.specs.List.Sorted.{IsStrictlySortedBy}
use Rattle.std.specs.Map.{keys_of}
use Rattle.serde_json.specs.declared.value.Value.{Value}
use Rattle.serde_json.specs.Data.{Data, string, object, Items, Members, no_members, member}
use Rattle.serde_json.specs.View.{items_of, members_view}
use Rattle.pairs.specs.Labels.{Label}
use Rattle.pairs.specs.Names.{NamesRise}
use Rattle.pushjson.specs.Bodies.{labels_tree, HaveRisingNames}
use Rattle.pushjson.specs.Shape.{IsFaultOf}
use Rattle.pushjson.specs.declared.fault.PushFault.{PushFault}
use Rattle.pushjson.specs.declared.fault.PushFault.TheVariants.{WrongShape}
use Rattle.std.specs.Prelude.{Option, Some, None, is_some, true, false}
use Rattle.std.specs.Option.{MatchOption}

-- an item that is the tree of nothing stands in no list of such trees
pub no_list : {Y : Type 0} (tree : Y → Data) (before : List Data) (d : Data) (after : List Data) → ((y : Y) → d ≢ tree y) → (ys : List Y) → items_of (before ++ d ∷ after) ≢ items_of (map tree ys)
no_list tree [] d after h (y ∷ ys) = λ e. h y cc
no_list tree (b ∷ before) d after h (y ∷ ys) = λ e. no_list tree before d after h ys cc
no_list tree before d after h ys = λ e. cc

-- the members of these labels, and then others
abbrev pub labels_then : List Label → Members → Members
labels_then [] ms = ms
labels_then (p ∷ ps) ms = member p.0 (string p.1) (labels_then ps ms)

pub labels_then-more : (ps : List Label) (q : Label) (ms : Members) → labels_then (ps ++ q ∷ []) ms ≡ labels_then ps (member q.0 (string q.1) ms)
labels_then-more [] q ms = refl
labels_then-more (p ∷ ps) q ms = ap (member p.0 (string p.1)) (labels_then-more ps q ms)

pub labels_then-end : (ps : List Label) → labels_then ps no_members ≡ labels_tree ps
labels_then-end [] = refl
labels_then-end (p ∷ ps) = ap (member p.0 (string p.1)) (labels_then-end ps)

-- a member that is no text stands among no labels
pub no_labels : (ps : List Label) (name : List ℕ) (d : Data) (ms : Members) → ((text : List ℕ) → d ≢ string text) → (qs : List Label) → labels_then ps (member name d ms) ≢ labels_tree qs
no_labels [] name d ms h (q ∷ qs) = λ e. h q.1 cc
no_labels (p ∷ ps) name d ms h (q ∷ qs) = λ e. no_labels ps name d ms h qs cc
no_labels ps name d ms h qs = λ e. cc

-- what is wrong with a part is wrong with the whole
pub part_fault : {Y W : Type 0} (part : Y → Data) (p : Data) (whole : W → Data) (d : Data) (e : PushFault) → IsFaultOf part p e → (((y : Y) → p ≢ part y) → (w : W) → d ≢ whole w) → IsFaultOf whole d e
part_fault part p whole d WrongShape r h = h r
part_fault part p whole d e r h = r

-- an item that is no tree of its kind makes an array that is none
pub item_fault : {Y : Type 0} (tree : Y → Data) (around : Items → Data) (before : List Y) (d whole : Data) (after : List Data) (e : PushFault) → ((is js : Items) → around is ≡ around js → is ≡ js) → whole ≡ around (items_of (map tree before ++ d ∷ after)) → IsFaultOf tree d e → IsFaultOf (λ ys. around (items_of (map tree ys))) whole e
item_fault tree around before d whole after e inj w r = part_fault tree d (λ ys. around (items_of (map tree ys))) whole e r (λ h ys same. no_list tree (map tree before) d after h ys (inj _ _ (sym w ∙ same)))

-- a label that is no text makes an object that is none of labels
pub label_fault : (done : List Label) (name : List ℕ) (d whole : Data) (ms : Members) (e : PushFault) → whole ≡ object (labels_then done (member name d ms)) → IsFaultOf string d e → IsFaultOf (λ ps. object (labels_tree ps)) whole e
label_fault done name d whole ms e w r = part_fault string d (λ ps. object (labels_tree ps)) whole e r (λ h ps same. let s : object (labels_then done (member name d ms)) ≡ object (labels_tree ps) = sym w ∙ same in no_labels done name d ms h ps cc)

-- one more label is read
pub label_more : (done all : List Label) (q : Label) (d whole : Data) (ms : Members) → whole ≡ object (labels_then done (member q.0 d ms)) → d ≡ string q.1 → all ≡ done ++ q ∷ [] → whole ≡ object (labels_then all ms)
label_more done all q d whole ms w t a = rw (a, labels_then-more done q ms) (w ∙ ap (λ x. object (labels_then done (member q.0 x ms))) t)

-- the last label is read
pub label_last : (done : List Label) (whole : Data) → whole ≡ object (labels_then done no_members) → whole ≡ object (labels_tree done)
label_last done whole w = w ∙ ap object (labels_then-end done)

below_names : (name : List ℕ) (es : List (String Global × Value)) → AllByRecursion (λ k. slice_cmp nat_cmp name (string_bytes k) ≡ Less) (keys_of es) → AllByRecursion (λ k. slice_cmp nat_cmp name k ≡ Less) (map (λ m. string_bytes m.0) es)
below_names name [] h = h
below_names name (e ∷ es) h = (h.0, below_names name es h.1)

-- a map's keys rise by their bytes
pub rising_keys : (es : List (String Global × Value)) → IsStrictlySortedBy string_cmp (keys_of es) → IsStrictlySortedBy (slice_cmp nat_cmp) (map (λ m. string_bytes m.0) es)
unfolding IsStrictlySortedBy
rising_keys [] h = h
rising_keys (e ∷ es) h = (below_names (string_bytes e.0) es h.0, rising_keys es h.1)

-- the names read and the names left
abbrev pub all_names : List Label → List (String Global × Value) → List (List ℕ)
all_names ps es = map (λ p. p.0) ps ++ map (λ m. string_bytes m.0) es

pub rising_more : (ps all : List Label) (q : Label) (es rest : List (String Global × Value)) (e : String Global × Value) → IsStrictlySortedBy (slice_cmp nat_cmp) (all_names ps es) → es ≡ e ∷ rest → all ≡ ps ++ q ∷ [] → string_bytes e.0 ≡ q.0 → IsStrictlySortedBy (slice_cmp nat_cmp) (all_names all rest)
rising_more ps all q es rest e h s a n =
    let same : all_names all rest ≡ all_names ps es = rw (a, s) (simp (map-append, append_assoc) (ap (λ x. map (λ p. p.0) ps ++ x ∷ map (λ m. string_bytes m.0) rest) (sym n))) in
    rw same h

pub rising_last : (ps : List Label) (es : List (String Global × Value)) → IsStrictlySortedBy (slice_cmp nat_cmp) (all_names ps es) → es ≡ [] → HaveRisingNames ps
rising_last ps es h e =
    let same : all_names ps es ≡ map (λ p. p.0) ps = rw e (append-nil _) in
    rw (← same) h

-- names that rise, each below all that follow, are each below the next
pub names_rise : (ps : List Label) → HaveRisingNames ps → NamesRise ps
unfolding IsStrictlySortedBy
names_rise (p ∷ q ∷ qs) h = (h.0.0, names_rise (q ∷ qs) h.1)
names_rise ps h = tt

-- an object has no member of a key in front where its members have none
pub other_member : (key : List ℕ) (whole : Data) (ms : Members) → whole ≡ object ms → ((d : Data) (rest : Members) → ms ≢ member key d rest) → (d : Data) (rest : Members) → whole ≢ object (member key d rest)
other_member key whole ms w h d rest = λ same. let s : object ms ≡ object (member key d rest) = sym w ∙ same in h d rest cc

-- what holds where nothing came holds
pub none_came : {A : Type 0} (P : Type 0) (Q : A → Type 0) (o : Option A) → false ≡ is_some o → MatchOption o P Q → P
none_came P Q None e h = h
none_came P Q (Some x) e h = cc

-- members of which one more came are not none
pub more_came : (ms new : List (String Global × Value)) (P : Type 0) (o : Option (String Global × Value)) → true ≡ is_some o → MatchOption o P (λ x. ms ≡ x ∷ new) → members_view ms ≢ no_members
more_came ms new P None e h = λ same. cc
more_came ms new P (Some x) e h = λ same. let s : members_view (x ∷ new) ≡ no_members = ap members_view (sym h) ∙ same in cc

-- The text of a read's answer: the tokens that are written one after another are those of its tree.
use Rattle.std.proofs.Common.{◌≡◌, ℕ, suc, ◌+◌, ◌<◌, List, [], ◌∷◌, ◌++◌, length, map, drop, get_or, String, Global, add-one, ap, ap₂, sym, ◌∙◌, arith, append_assoc}
use Rattle.std.proofs.Math.Seq.{drop-cons}
use Rattle.std.proofs.lemmas.List.{length-map, get_or-map}
use Rattle.json.specs.Token.{Token, key, string}
use Rattle.json.specs.Tree.{json_tokens, items_tokens, members_tokens}
use Rattle.json.specs.Print.{print}
use Rattle.serde_json.specs.View.{items_of}
use Rattle.serde_json.specs.Written.{outline, items_outline, members_outline, compact_text}
use Rattle.serde_json.proofs.Texts.{print-outline}
use Rattle.pairs.specs.Labels.{Label, label_of}
use Rattle.entries.specs.declared.entry.Entry.{Entry}
use Rattle.pushjson.specs.Bodies.{labels_tree}
use Rattle.answering.specs.Replies.{entry_tree, read_tree}

abbrev pub entries_tokens : List Entry → List Token
entries_tokens es = items_tokens (items_outline (items_of (map entry_tree es)))

abbrev pub pairs_tokens : List Label → List Token
pairs_tokens ps = members_tokens (members_outline (labels_tree ps))

-- the pair at k is written before the others
pub pair_more : (all : List Token) (ps : List (String Global × String Global)) (k : ℕ) (p : String Global × String Global) (name value : List ℕ) (old new : List Token) → k < length ps → p ≡ get_or ps k p
    → old ++ pairs_tokens (drop k (map label_of ps)) ≡ all → name ≡ (label_of p).0 → value ≡ (label_of p).1 → new ≡ old ++ key name ∷ string value ∷ [] → new ++ pairs_tokens (drop (k + 1) (map label_of ps)) ≡ all
pair_more all ps k p name value old new within here rest name_is value_is is =
    let length_is = length-map ps label_of in
    let named : label_of p ≡ get_or (map label_of ps) k (label_of p) = ap label_of here ∙ sym (get_or-map label_of ps k p (label_of p) within) in
    let split : drop k (map label_of ps) ≡ label_of p ∷ drop (suc k) (map label_of ps) = drop-cons (map label_of ps) k (label_of p) (omega arith) ∙ ap (λ x. x ∷ drop (suc k) (map label_of ps)) (sym named) in
    let tail = pairs_tokens (drop (suc k) (map label_of ps)) in
    let same : new ≡ old ++ key (label_of p).0 ∷ string (label_of p).1 ∷ [] = is ∙ ap₂ (λ a b. old ++ key a ∷ string b ∷ []) name_is value_is in
    let joined : new ++ tail ≡ old ++ (key (label_of p).0 ∷ string (label_of p).1 ∷ tail) = ap (λ t. t ++ tail) same ∙ append_assoc old _ _ in
    ap (λ n. new ++ pairs_tokens (drop n (map label_of ps))) (add-one k) ∙ joined ∙ ap (λ ls. old ++ pairs_tokens ls) (sym split) ∙ rest

-- all is written
pub whole : (es : List Entry) (before : List ℕ) (tokens : List Token) → before ≡ [] → tokens ≡ json_tokens (outline (read_tree es)) → before ++ print tokens ≡ compact_text (read_tree es)
whole es before tokens none is = ap₂ (λ b t. b ++ print t) none is ∙ print-outline (read_tree es)

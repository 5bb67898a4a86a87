-- The lists of beginnings, one item on.
use Rattle.std.proofs.Common.{◌≡◌, ◌<◌, ℕ, ◌+◌, List, [], ◌∷◌, ◌++◌, length, get_or, take, Vec, refl, ap, sym, ◌∙◌, append_assoc}
use Rattle.std.specs.declared.alloc.Global.{Global}
use Rattle.std.proofs.lemmas.List.{append-nil, map_more, map-append, take_more}
use Rattle.memory_disk.specs.Images.{contents}
use Rattle.memory_disk.specs.Beginnings.{extended, each_longer, all_beginnings}

pub extended-push : (f vs : List ℕ) (v : ℕ) → extended f (vs ++ v ∷ []) ≡ extended f vs ++ (f ++ v ∷ []) ∷ []
extended-push f [] v = refl
extended-push f (w ∷ vs) v = ap (λ (xs : List (List ℕ)). (f ++ w ∷ []) ∷ xs) (extended-push f vs v)

pub longer-push : (all : List (List ℕ)) (f vs : List ℕ) → each_longer (all ++ f ∷ []) vs ≡ each_longer all vs ++ extended f vs
longer-push [] f vs = append-nil (extended f vs)
longer-push (g ∷ all) f vs =
    ap (λ (xs : List (List ℕ)). extended g vs ++ xs) (longer-push all f vs) ∙ sym (append_assoc (extended g vs) (each_longer all vs) (extended f vs))

pub contents-append : (vs ws : List (Vec ℕ Global)) → contents (vs ++ ws) ≡ contents vs ++ contents ws
contents-append vs ws = map-append (λ (w : Vec ℕ Global). w.items) vs ws

contents-push : (vs : List (Vec ℕ Global)) (v : Vec ℕ Global) → contents (vs ++ v ∷ []) ≡ contents vs ++ v.items ∷ []
contents-push vs v = map-append (λ (w : Vec ℕ Global). w.items) vs (v ∷ [])

contents-more : (vs : List (Vec ℕ Global)) (i : ℕ) (v : Vec ℕ Global) → i < length vs → v ≡ get_or vs i v
    → contents (take (i + 1) vs) ≡ contents (take i vs) ++ v.items ∷ []
contents-more vs i v h is =
    map_more (λ (w : Vec ℕ Global). w.items) vs i v h ∙ ap (λ (w : Vec ℕ Global). contents (take i vs) ++ w.items ∷ []) (sym is)

-- one more beginning with one of the values
pub extended-more : (all all' : List (Vec ℕ Global)) (base : List (List ℕ)) (front next : Vec ℕ Global) (vs : List ℕ) (j v : ℕ)
    → contents all ≡ base ++ extended front.items (take j vs) → j < length vs → v ≡ get_or vs j 0
    → next.items ≡ front.items ++ v ∷ [] → all' ≡ all ++ next ∷ []
    → contents all' ≡ base ++ extended front.items (take (j + 1) vs)
extended-more all all' base front next vs j v was h is same e =
    let pushed : contents all' ≡ contents all ++ next.items ∷ [] = ap contents e ∙ contents-push all next in
    let more : extended front.items (take (j + 1) vs) ≡ extended front.items (take j vs) ++ (front.items ++ v ∷ []) ∷ []
    = ap (λ (xs : List ℕ). extended front.items xs) (take_more vs j 0 h ∙ ap (λ (x : ℕ). take j vs ++ x ∷ []) (sym is))
    ∙ extended-push front.items (take j vs) v in
    rw more (pushed ∙ ap (λ (xs : List (List ℕ)). xs ++ next.items ∷ []) was
    ∙ append_assoc base (extended front.items (take j vs)) (next.items ∷ [])
    ∙ ap (λ (x : List ℕ). base ++ (extended front.items (take j vs) ++ x ∷ [])) same)

-- one more beginning with each of the values
pub longer-more : (all all' all_beginnings : List (Vec ℕ Global)) (vs : List ℕ) (i : ℕ) (front : Vec ℕ Global)
    → contents all ≡ each_longer (contents (take i all_beginnings)) vs → i < length all_beginnings → front ≡ get_or all_beginnings i front
    → contents all' ≡ contents all ++ extended front.items vs
    → contents all' ≡ each_longer (contents (take (i + 1) all_beginnings)) vs
longer-more all all' all_beginnings vs i front was h is e =
    e ∙ ap (λ (xs : List (List ℕ)). xs ++ extended front.items vs) was
    ∙ sym (ap (λ (xs : List (List ℕ)). each_longer xs vs) (contents-more all_beginnings i front h is) ∙ longer-push (contents (take i all_beginnings)) front.items vs)

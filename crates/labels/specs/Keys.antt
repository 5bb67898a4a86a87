-- The order of keys, and keys as data.
use Rattle.std.specs.Prelude.{ℕ, Bool, List, refl}
use Rattle.std.specs.declared.cmp.Ordering.{Ordering}
use Rattle.std.specs.Ordering.{nat_cmp, ordering_then, is_eq}
use Rattle.std.specs.Cmp.Lexicographic.{slice_cmp}
use Rattle.std.specs.Coded.{Coded, code_by, coded×, coded_list, coded_ℕ}
use Rattle.labels.specs.declared.key.StreamKey.{StreamKey}

-- by the tenant's bytes, and then by those of the labels' canonical text
abbrev pub key_cmp : StreamKey → StreamKey → Ordering
key_cmp a b = ordering_then (slice_cmp nat_cmp a.tenant b.tenant)
    (slice_cmp nat_cmp a.labels b.labels)

abbrev pub same_key : StreamKey → StreamKey → Bool
same_key a b = is_eq (key_cmp a b)

-- a key is stored as the pair of its texts
abbrev pub coded_key : Coded StreamKey
coded_key =
    code_by (List ℕ × List ℕ) (coded× (coded_list coded_ℕ) (coded_list coded_ℕ))
    (λ k. (k.tenant, k.labels))
    (λ p. record { tenant = p.0; labels = p.1 }) (λ _. refl)

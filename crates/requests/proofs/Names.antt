-- A lawful tenant is text.
use Rattle.std.proofs.Common.{◌≡◌, ℕ, zero, suc, ◌<◌, Bool, true, false, ◌&&◌, List, [], ◌∷◌, get_or, refl, sym, arith}
use Rattle.std.proofs.lemmas.Bool.{true≢false}
use Rattle.std.proofs.lemmas.Bool.Decides.{nat_tests}
use Rattle.std.proofs.lemmas.Str.{IsUtf8-from_ascii}
use Rattle.std.specs.Str.{IsUtf8}
use Rattle.std.specs.List.{list_all}
use Rattle.labels.specs.Tenants.{is_tenant, is_tenant_byte}

and_first : (a b : Bool) → (a && b) ≡ true → a ≡ true
and_first true b both = refl
and_first false b both = both

and_second : (a b : Bool) → (a && b) ≡ true → b ≡ true
and_second true b both = both
and_second false b both = absurd (true≢false (sym both))

tenant_byte : (b : ℕ) → is_tenant_byte b ≡ true → b < 128
tenant_byte b lawful = grind (arith, nat_tests)

all_ascii : (bs : List ℕ) → list_all is_tenant_byte bs ≡ true → (i : ℕ) → get_or bs i 0 < 128
all_ascii [] all i = omega arith
all_ascii (b ∷ bs) all zero = tenant_byte b (and_first _ _ all)
all_ascii (b ∷ bs) all (suc i) = all_ascii bs (and_second _ _ all) i

tenant_text : (name : List ℕ) → is_tenant name ≡ true → IsUtf8 name
unfolding is_tenant
tenant_text name lawful = IsUtf8-from_ascii name (all_ascii name (and_second _ _ lawful))

-- what is no text is no tenant
pub no_tenant : (name : List ℕ) → (IsUtf8 name → ⊥) → is_tenant name ≡ false
no_tenant name no_text = by (is_tenant name) refl
  where
    by : (t : Bool) → is_tenant name ≡ t → t ≡ false
    by true e = absurd (no_text (tenant_text name e))
    by false e = refl

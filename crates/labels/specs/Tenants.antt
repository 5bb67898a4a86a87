-- Which texts name a tenant.
use Rattle.std.specs.Prelude.{ℕ, Bool, ◌&&◌, ◌||◌, List, length, nat_le, not, ◌==◌}
use Rattle.std.specs.List.{list_all}
use Rattle.std.specs.Char.{is_ascii_alphanumeric}

-- `[A-Za-z0-9_-]`
abbrev pub is_tenant_byte : ℕ → Bool
is_tenant_byte b = is_ascii_alphanumeric b || b == 45 || b == 95

-- 1 to 150 of these
unfoldable pub is_tenant : List ℕ → Bool
is_tenant text = not (length text == 0) && nat_le (length text) 150 && list_all is_tenant_byte text

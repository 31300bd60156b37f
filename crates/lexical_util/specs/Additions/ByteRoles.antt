-- The role of a byte in the numbers of a format, for the calls of `NumberFormat` on roles.
use Rattle.std.specs.Prelude.{ℕ, ◌≡◌, ◌↔◌, IsTrue, Option, Some, List, [], ◌∷◌}
use Rattle.std.specs.List.{find}
use Rattle.lexical_base.specs.Ascii.{ByteSet}
use Rattle.lexical_flags.specs.Record.{Record}
use Rattle.lexical_flags.specs.Roles.{digits, signs, used_separator, prefix, suffix, exponent, point}
use Rattle.lexical_util.specs.declared.feature_format.roles.Role.{Role}
use Rattle.lexical_util.specs.declared.feature_format.roles.Role.TheVariants as roles

-- `role_set r exponent_byte point_byte role` is the set of the bytes that play `role` in the format of `r`, with this
-- exponent character and this decimal point.
abbrev pub role_set : Record → ℕ → ℕ → Role → ByteSet
role_set r exponent_byte point_byte roles.Digit = digits r
role_set r exponent_byte point_byte roles.Sign = signs
role_set r exponent_byte point_byte roles.Separator = used_separator r
role_set r exponent_byte point_byte roles.Prefix = prefix r
role_set r exponent_byte point_byte roles.Suffix = suffix r
role_set r exponent_byte point_byte roles.Exponent = exponent r exponent_byte
role_set r exponent_byte point_byte roles.Point = point point_byte

-- `roles_in_order` lists the roles in the order in which they are looked for.
abbrev pub roles_in_order : List Role
roles_in_order =
    roles.Digit ∷ roles.Sign ∷ roles.Separator ∷ roles.Prefix ∷ roles.Suffix ∷ roles.Exponent ∷ roles.Point ∷ []

-- `first_role r exponent_byte point_byte byte` is the first role that `byte` plays in the format of `r`, with this
-- exponent character and this decimal point, or `None` if it plays none.
abbrev pub first_role : Record → ℕ → ℕ → ℕ → Option Role
first_role r exponent_byte point_byte byte = find (λ role. role_set r exponent_byte point_byte role byte) roles_in_order

-- `IsOnlyRole r exponent_byte point_byte byte found` holds if `found` is the only role that `byte` plays in the format
-- of `r`, with this exponent character and this decimal point, or if `found` is `None` and `byte` plays no role.
abbrev pub IsOnlyRole : Record → ℕ → ℕ → ℕ → Option Role → Type 0
IsOnlyRole r exponent_byte point_byte byte found =
    (role : Role) → IsTrue (role_set r exponent_byte point_byte role byte) ↔ (found ≡ Some role)

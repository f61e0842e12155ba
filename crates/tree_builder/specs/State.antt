-- What each action makes of the state by value, and the slots of the fields around.
use Rattle.std.specs.Prelude.{ℕ, ◌+◌, ◌*◌, ◌-◌, ◌/◌, ◌%◌, max, List, false, ◌&&◌, ltb, eqb}
use Rattle.wire.specs.Bytes.{pick}
use Rattle.wire.specs.Numbers.{number}
use Rattle.wire.specs.Runs.{bytes_at}
use Rattle.tree_builder.specs.declared.Building.{Building}

-- a slot has eight bytes: where the field starts, where its parts do, how tall they are
unfoldable pub slot_in : (frames : List ℕ) → (index : ℕ) → ℕ
slot_in m i = number (bytes_at m (8 * i) 8) 0

abbrev pub slot_number : (start body tall : ℕ) → ℕ
slot_number p q n = p * 268435456 + (q * 64 + n)

-- a field begins; its parts so far, one or none, reach up to the new end
unfoldable pub opened_at : Building → (start body fill tall late : ℕ) → Building
opened_at s p q e n l =
    record { brackets = s.brackets; depth = s.depth + 1; fill = e; start = p; body = q; tallest = n; last = q; height = n; late = l; word = false; name = 0; before = 0 }

-- a part of one level and of so many bytes
unfoldable pub with_part : Building → (size late : ℕ) → Building
with_part s n l =
    record { brackets = s.brackets; depth = s.depth; fill = s.fill + n; start = s.start; body = s.body; tallest = max s.tallest 1; last = s.fill; height = 1; late = l; word = false; name = 0; before = 0 }

-- bytes come before the parts: so many to the head, so many in all
unfoldable pub raised : Building → (head size : ℕ) → Building
raised s k n =
    record { brackets = s.brackets; depth = s.depth; fill = s.fill + n; start = s.start; body = s.body + k; tallest = s.tallest; last = s.last + n; height = s.height; late = s.late; word = false; name = 0; before = 0 }

-- the field ends, and the one around it is read from its slot
unfoldable pub closed_into : Building → (slot : ℕ) → Building
closed_into s n =
    record { brackets = s.brackets; depth = s.depth - 1; fill = s.fill; start = n / 268435456; body = n / 64 % 4194304; tallest = max (n % 64) (s.tallest + 1); last = s.start; height = s.tallest + 1; late = s.late; word = false; name = 0; before = 0 }

-- a constant at a place, on a line
unfoldable pub late_with : (late line place : ℕ) → ℕ
late_with n l p = pick (eqb n 0 && ltb 255 l) (p + 1) n

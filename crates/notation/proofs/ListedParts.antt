-- Fields that are as listed: what holds of each field in them, and that places do not matter.
use Prim.Native.Nat.{ℕ, zero, suc}
use mathlib.Core.Path.{◌≡◌, refl}
use Rattle.rules.specs.Format.{form_of}
use Rattle.rules.specs.Fields.{Field, field, Fields, none, more, tag_of}
use Rattle.rules.specs.declared.Kind.{Kind}
use Rattle.rules.specs.declared.Part.{Part}
use Rattle.rules.specs.declared.Part.TheVariants.{Over, One, UpTo, Many, Names}
use Rattle.rules.specs.declared.Parts.{Parts}
use Rattle.rules.specs.declared.Rest.{Rest}
use Rattle.rules.specs.declared.Rest.TheVariants.{Only, Text, Fields as Inner}
use Rattle.rules.proofs.Listed.{Same, same, OneOf, one, ManyOf, none_of_many, one_of_many, AtMost, no_further, further, NamesOf, default_name, device_names, PartTakes, PartsAre, InnerFor, Listed}
use Rattle.rules.proofs.TypedBack.{unplaced, unplaced_all}
use Rattle.notation.proofs.Written.{All, no_field, also_field}

-- ---- Each field

module _ {P : Field → Type 0} where
  each_same : {ks rest : Fields} → Same ks rest → All P rest → All P ks
  each_same same r = r

  each_one : {k : Kind} {ks rest : Fields} → OneOf P k ks rest → All P rest → All P ks
  each_one (one t p) r = also_field p r

  each_many : {k : Kind} {ks rest : Fields} → ManyOf P k ks rest → All P rest → All P ks
  each_many none_of_many r = r
  each_many (one_of_many t p s) r = also_field p (each_many s r)

  each_at_most : {k : Kind} {n : ℕ} {ks rest : Fields} → AtMost P k n ks rest → All P rest → All P ks
  each_at_most no_further r = r
  each_at_most (further ne t p s) r = also_field p (each_at_most s r)

  each_name : {ks rest : Fields} → NamesOf P ks rest → All P rest → All P ks
  each_name (default_name t p) r = also_field p r
  each_name (device_names t p s) r = also_field p (each_many s r)

  each_part : (x : Part) {ks rest : Fields} → PartTakes P x ks rest → All P rest → All P ks
  each_part Over s r = each_same s r
  each_part (One k) s r = each_one s r
  each_part (UpTo n k) s r = each_at_most s r
  each_part (Many k) s r = each_many s r
  each_part Names s r = each_name s r

  -- P holds of each field of the parts
  pub each_of_parts : (ps : Parts) {ks : Fields} → PartsAre P ps ks → All P ks
  each_of_parts ps s = each_part ps.first s.in_first (each_part ps.second s.in_second (each_part ps.third s.in_third no_field))

  pub each_inside : (r : Rest) {ks : Fields} → InnerFor P r ks → All P ks
  each_inside Only s = each_same s no_field
  each_inside Text s = each_same s no_field
  each_inside (Inner ps) s = each_of_parts ps s

  pub all_first : {k : Field} {ks : Fields} → All P (more k ks) → P k
  all_first (also_field p r) = p

  pub all_others : {k : Field} {ks : Fields} → All P (more k ks) → All P ks
  all_others (also_field p r) = r

-- ---- Without places

tag_unplaced : (f : Field) → tag_of (unplaced f) ≡ tag_of f
unfolding tag_of unplaced
tag_unplaced (field p t h ks) = refl

same_unplaced : {ks rest : Fields} → Same ks rest → Same (unplaced_all ks) (unplaced_all rest)
same_unplaced same = same

module _ (P Q : Field → Type 0) (g : (f : Field) → P f → Q (unplaced f)) where
  one_unplaced : {k : Kind} {ks rest : Fields} → OneOf P k ks rest → OneOf Q k (unplaced_all ks) (unplaced_all rest)
  unfolding unplaced
  one_unplaced (one {f = f} t p) = one {f = unplaced f} (rw (tag_unplaced f) t) (g f p)

  many_unplaced : {k : Kind} {ks rest : Fields} → ManyOf P k ks rest → ManyOf Q k (unplaced_all ks) (unplaced_all rest)
  unfolding unplaced
  many_unplaced none_of_many = none_of_many
  many_unplaced (one_of_many {f = f} t p s) = one_of_many {f = unplaced f} (rw (tag_unplaced f) t) (g f p) (many_unplaced s)

  at_most_unplaced : {k : Kind} {n : ℕ} {ks rest : Fields} → AtMost P k n ks rest → AtMost Q k n (unplaced_all ks) (unplaced_all rest)
  unfolding unplaced
  at_most_unplaced no_further = no_further
  at_most_unplaced (further {f = f} ne t p s) = further {f = unplaced f} ne (rw (tag_unplaced f) t) (g f p) (at_most_unplaced s)

  names_unplaced : {ks rest : Fields} → NamesOf P ks rest → NamesOf Q (unplaced_all ks) (unplaced_all rest)
  unfolding unplaced
  names_unplaced (default_name {f = f} t p) = default_name {f = unplaced f} (rw (tag_unplaced f) t) (g f p)
  names_unplaced (device_names {f = f} t p s) = device_names {f = unplaced f} (rw (tag_unplaced f) t) (g f p) (many_unplaced s)

  part_unplaced : (x : Part) (ks rest : Fields) → PartTakes P x ks rest → PartTakes Q x (unplaced_all ks) (unplaced_all rest)
  part_unplaced Over ks rest s = same_unplaced s
  part_unplaced (One k) ks rest s = one_unplaced s
  part_unplaced (UpTo n k) ks rest s = at_most_unplaced s
  part_unplaced (Many k) ks rest s = many_unplaced s
  part_unplaced Names ks rest s = names_unplaced s

  -- fields that are those of some parts stay so
  pub parts_unplaced : (ps : Parts) {ks : Fields} → PartsAre P ps ks → PartsAre Q ps (unplaced_all ks)
  unfolding unplaced
  parts_unplaced ps {ks} s = record {
    second = unplaced_all s.second;
    third = unplaced_all s.third;
    in_first = part_unplaced ps.first ks s.second s.in_first;
    in_second = part_unplaced ps.second s.second s.third s.in_second;
    in_third = part_unplaced ps.third s.third none s.in_third;
  }

  inside_unplaced : (r : Rest) (ks : Fields) → InnerFor P r ks → InnerFor Q r (unplaced_all ks)
  unfolding unplaced
  inside_unplaced Only ks s = same_unplaced s
  inside_unplaced Text ks s = same_unplaced s
  inside_unplaced (Inner ps) ks s = parts_unplaced ps s

-- a field as listed stays so
pub listed_unplaced : (d : ℕ) (k : Field) → Listed d k → Listed d (unplaced k)
unfolding unplaced
listed_unplaced zero k a = absurd a
listed_unplaced (suc d) (field p t h ks) a = record { head = a.head; fields = inside_unplaced (Listed d) (Listed d) (λ f b. listed_unplaced d f b) (form_of t).rest ks a.fields }

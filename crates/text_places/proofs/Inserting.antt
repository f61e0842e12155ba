-- Marks inserted among others: where the log led before, it leads with one entry more. Assumes nothing.
use mathlib.Core.Path.{◌≡◌, refl, sym, ap, ◌∙◌}
use mathlib.Core.Bool.{Bool, true, false}
use mathlib.Core.List.{List, [], ◌∷◌, ◌++◌, append_assoc, append-nil}
use Prim.Native.Nat.{ℕ, zero, suc, ◌+◌, ◌-◌, ◌≤◌, ◌<◌}
use native.Mathlib.Omega.{arith}
use borrow.Author.Tests.{le-leb, lt-leb, leb-true, leb-false, ltb-true, ltb-false}
use lib.Dec.{leb, ltb}
use lib.ListN.{length, length-append, get_or-append, get_or-eq_default}
use lib.Seq.{get_or-append-add}
use Rattle.wire.specs.Bytes.{pick, byte as at}
use Rattle.text_places.specs.Log.{Insertion, insertion, followed, Leads}

-- all fields that begin among these bytes came with this place
pub record Only (place : ℕ) (marks : List ℕ) : Type 0 where
  pub only : (i p : ℕ) → at marks i ≡ suc p → p ≡ place

-- bytes came at an offset, with this place; never one alone
pub record Inserted (from place : ℕ) (old new : List ℕ) : Type 0 where
  pub front : List ℕ
  pub come : List ℕ
  pub behind : List ℕ
  pub before : old ≡ front ++ behind
  pub after : new ≡ front ++ (come ++ behind)
  pub offset : from ≡ length front
  pub whose : Only place come
  pub not_one : length come ≡ 1 → ⊥

-- these bytes came last, or none did
pub record Appended (place : ℕ) (old new : List ℕ) : Type 0 where
  pub come : List ℕ
  pub after : new ≡ old ++ come
  pub whose : Only place come
  pub not_one : length come ≡ 1 → ⊥

-- none came, and at most so many of the last ones went
pub record Shortened (most : ℕ) (old new : List ℕ) : Type 0 where
  pub gone : List ℕ
  pub before : old ≡ new ++ gone
  pub few : length gone ≤ most

-- ---- At an offset

-- a field does not begin behind the end
past_end : {A : Type 0} (ms : List ℕ) (o p : ℕ) → length ms ≤ o → at ms o ≡ suc p → A
past_end ms o p far e = absurd (omega (arith, e, get_or-eq_default ms 0 far))

-- behind the front
pub behind_front : (xs ys : List ℕ) (o : ℕ) → length xs ≤ o → at (xs ++ ys) o ≡ at ys (o - length xs)
behind_front xs ys o far =
    let there : o ≡ length xs + (o - length xs) = omega arith in
    ap (at (xs ++ ys)) there ∙ get_or-append-add xs ys (o - length xs) 0

no_length : (ms : List ℕ) → length ms ≤ 0 → ms ≡ []
no_length [] h = refl
no_length (m ∷ ms) h = absurd (omega arith)

-- ---- Where a field that begins now was before: it stayed, it moved up, or it came

pub data Origin (from size place : ℕ) (old : List ℕ) (offset p : ℕ) : Type 0 where
  stayed : offset < from → at old offset ≡ suc p → Origin from size place old offset p
  moved : from + size ≤ offset → at old (offset - size) ≡ suc p → Origin from size place old offset p
  came : from ≤ offset → offset < from + size → p ≡ place → Origin from size place old offset p

module _ (xs ns ys : List ℕ) (place : ℕ) (whose : Only place ns) (o p : ℕ) (e : at (xs ++ (ns ++ ys)) o ≡ suc p) where
  origin : Origin (length xs) (length ns) place (xs ++ ys) o p
  origin = go (leb (length xs + length ns) o) refl (leb (length xs) o) refl
    where
      go : (b : Bool) → leb (length xs + length ns) o ≡ b → (c : Bool) → leb (length xs) o ≡ c → Origin (length xs) (length ns) place (xs ++ ys) o p
      go true i c j =
          let far = leb-true (length xs + length ns) o i in
          let same : o - length xs - length ns ≡ o - length ns - length xs = omega arith in
          moved far
          (behind_front xs ys (o - length ns) (omega arith) ∙ ap (at ys) (sym same) ∙ sym (behind_front ns ys (o - length xs) (omega arith)) ∙ sym (behind_front xs (ns ++ ys) o (omega arith)) ∙ e)
      go false i true j =
          let near = leb-false (length xs + length ns) o i in
          let far = leb-true (length xs) o j in
          came far near (whose.only (o - length xs) p (sym (get_or-append ns ys 0 (o - length xs) (omega arith)) ∙ sym (behind_front xs (ns ++ ys) o far) ∙ e))
      go false i false j =
          let near = leb-false (length xs) o j in
          stayed near (get_or-append xs ys 0 o (omega arith) ∙ sym (get_or-append xs (ns ++ ys) 0 o (omega arith)) ∙ e)

module _ {from place : ℕ} {old new : List ℕ} (i : Inserted from place old new) where
  pub grown : length new ≡ length old + length i.come
  grown =
      ap length i.after
      ∙ omega (arith, length-append i.front (i.come ++ i.behind), length-append i.come i.behind, ap length i.before, length-append i.front i.behind)

  pub inserted_origin : (o p : ℕ) → at new o ≡ suc p → Origin from (length new - length old) place old o p
  inserted_origin o p e =
      let wide : length new - length old ≡ length i.come = omega (arith, grown) in
      rw (i.offset, wide, i.before) (origin i.front i.come i.behind place i.whose o p (ap (λ (ms : List ℕ). at ms o) (sym i.after) ∙ e))

  -- one entry more
  inserted_leads : {l : List Insertion} → Leads l old → Leads (insertion from (length new - length old) place ∷ l) new
  unfolding followed
  inserted_leads {l} h = record { leads = λ o p e. go o p (inserted_origin o p e) }
    where
      go : (o p : ℕ) → Origin from (length new - length old) place old o p → pick (leb (from + (length new - length old)) o) (followed l (o - (length new - length old))) (pick (leb from o) place (followed l o)) ≡ p
      go o p (stayed near e) = rw (lt-leb (from + (length new - length old)) o (omega arith), lt-leb from o near) (h.leads o p e)
      go o p (moved far e) = rw (le-leb (from + (length new - length old)) o far) (h.leads (o - (length new - length old)) p e)
      go o p (came far near e) = rw (lt-leb (from + (length new - length old)) o near, le-leb from o far) (sym e)

  -- where no byte came, all is as it was
  inserted_none : length new ≤ length old → Shortened 0 old new
  inserted_none short =
      let none_came : i.come ≡ [] = no_length i.come (omega (arith, grown)) in
      record { gone = []; before = i.before ∙ ap (λ (ms : List ℕ). i.front ++ (ms ++ i.behind)) (sym none_came) ∙ sym i.after ∙ sym (append-nil new); few = omega arith }

shortened_leads : {l : List Insertion} {most : ℕ} {old new : List ℕ} → Shortened most old new → Leads l old → Leads l new
shortened_leads {l} {old} {new} s h = record { leads = λ o p e. go o p (ltb o (length new)) refl e }
  where
    go : (o p : ℕ) (b : Bool) → ltb o (length new) ≡ b → at new o ≡ suc p → followed l o ≡ p
    go o p true i e = h.leads o p (ap (λ (ms : List ℕ). at ms o) s.before ∙ get_or-append new s.gone 0 o (ltb-true o (length new) i) ∙ e)
    go o p false i e = past_end new o p (ltb-false o (length new) i) e

-- ---- Whose fields begin

-- one field begins with its header, and others behind it
pub header_first : (p : ℕ) (ms : List ℕ) → Only p ms → Only p (suc p ∷ 0 ∷ 0 ∷ ms)
header_first p ms h = record { only = λ i q e. go i q e }
  where
    go : (i q : ℕ) → at (suc p ∷ 0 ∷ 0 ∷ ms) i ≡ suc q → q ≡ p
    go zero q e = omega arith
    go (suc zero) q e = absurd (omega arith)
    go (suc (suc zero)) q e = absurd (omega arith)
    go (suc (suc (suc i))) q e = h.only i q e

pub only_both : (place : ℕ) (xs ys : List ℕ) → Only place xs → Only place ys → Only place (xs ++ ys)
only_both place xs ys a b = record { only = λ i p e. go i p (ltb i (length xs)) refl e }
  where
    go : (i p : ℕ) (c : Bool) → ltb i (length xs) ≡ c → at (xs ++ ys) i ≡ suc p → p ≡ place
    go i p true h e = a.only i p (sym (get_or-append xs ys 0 i (ltb-true i (length xs) h)) ∙ e)
    go i p false h e = b.only (i - length xs) p (sym (behind_front xs ys i (ltb-false i (length xs) h)) ∙ e)

-- ---- By the lengths

-- what a token does: it inserts bytes, or takes some of the last ones away
pub data Moved (most from place : ℕ) (old new : List ℕ) : Type 0 where
  inserted : Inserted from place old new → Moved most from place old new
  shortened : Shortened most old new → Moved most from place old new

pub moved_leads : {most from place : ℕ} {old new : List ℕ} (l : List Insertion) → Moved most from place old new → Leads l old → Leads (pick (ltb (length old) (length new)) (insertion from (length new - length old) place ∷ l) l) new
moved_leads {most} {from} {place} {old} {new} l m h = go (ltb (length old) (length new)) refl m
  where
    go : (b : Bool) → ltb (length old) (length new) ≡ b → Moved most from place old new → Leads (pick b (insertion from (length new - length old) place ∷ l) l) new
    go true e (inserted i) = inserted_leads i h
    go true e (shortened s) = absurd (omega (arith, ltb-true (length old) (length new) e, ap length s.before, length-append new s.gone))
    go false e (inserted i) = shortened_leads (inserted_none i (ltb-false (length old) (length new) e)) h
    go false e (shortened s) = shortened_leads s h

-- ---- Bytes that came last

pub nothing_came : (place : ℕ) (ms : List ℕ) → Appended place ms ms
nothing_came place ms = record { come = []; after = sym (append-nil ms); whose = record { only = λ i p e. absurd (omega arith) }; not_one = λ z. omega arith }

pub appended_both : {place : ℕ} {a b c : List ℕ} → Appended place a b → Appended place b c → Appended place a c
appended_both {place} {a} {b} {c} g h =
    record {
      come = g.come ++ h.come;
      after = h.after ∙ ap (λ (ms : List ℕ). ms ++ h.come) g.after ∙ append_assoc a g.come h.come;
      whose = only_both place g.come h.come g.whose h.whose;
      not_one = λ z. omega (arith, z, length-append g.come h.come, g.not_one, h.not_one);
    }

-- these are inserted at the end
pub appended_inserted : {from place : ℕ} {old new : List ℕ} → from ≡ length old → Appended place old new → Inserted from place old new
appended_inserted {old = old} offset a =
    record { front = old; come = a.come; behind = []; before = sym (append-nil old); after = a.after ∙ ap (λ (ms : List ℕ). old ++ ms) (sym (append-nil a.come)); offset = offset; whose = a.whose; not_one = a.not_one }

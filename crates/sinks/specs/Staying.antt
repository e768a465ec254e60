-- What of a sink stays as it was while it takes bytes.
use Rattle.std.specs.Prelude.{◌≡◌, ℕ, ◌+◌, ◌-◌, ◌≤◌, List, length, drop, refl}
use Rattle.std.proofs.Common.{sym, ap, subst, ◌∙◌, arith, drop-drop}

-- what of a sink stays as it was from one time to a later one
pub record Staying (S : Type 0) : Type 1 where
  pub since : S → S → Type 0
  pub still : (a : S) → since a a
  pub later : (a b c : S) → since a b → since b c → since a c

-- a part of a sink stays as it was
abbrev pub same_stays : {S X : Type 0} → (S → X) → Staying S
same_stays part = record {
  since = λ a b. part b ≡ part a;
  still = λ a. refl;
  later = λ a b c p q. q ∙ p;
}

-- two things stay
abbrev pub both_stay : {S : Type 0} → Staying S → Staying S → Staying S
both_stay s t = record {
  since = λ a b. s.since a b × t.since a b;
  still = λ a. (s.still a, t.still a);
  later = λ a b c p q. (s.later a b c p.0 q.0, t.later a b c p.1 q.1);
}

-- of a room of which the first bytes are taken, the bytes after them stay
pub record RoomStays (count : ℕ) (room : List ℕ) (count' : ℕ) (room' : List ℕ) : Type 0 where
  pub grows : count ≤ count'
  pub as_long : length room' ≡ length room
  pub rest : drop count' room' ≡ drop count' room

pub rooms_stay : (i j k : ℕ) (x y z : List ℕ) → RoomStays i x j y → RoomStays j y k z → RoomStays i x k z
rooms_stay i j k x y z p q = record {
  grows = omega (arith, p.grows, q.grows);
  as_long = q.as_long ∙ p.as_long;
  rest =
      let far : j + (k - j) ≡ k = omega (arith, q.grows) in
      q.rest ∙ subst (λ n. drop n y ≡ drop n x) far (sym (drop-drop (k - j) j y) ∙ ap (drop (k - j)) p.rest ∙ drop-drop (k - j) j x);
}

-- of a sink that fills a room from its front, the bytes past those taken stay
abbrev pub room_stays : {S : Type 0} → (S → ℕ) → (S → List ℕ) → Staying S
room_stays count room = record {
  since = λ a b. RoomStays (count a) (room a) (count b) (room b);
  still = λ a. record { grows = omega arith; as_long = refl; rest = refl };
  later = λ a b c p q. rooms_stay (count a) (count b) (count c) (room a) (room b) (room c) p q;
}

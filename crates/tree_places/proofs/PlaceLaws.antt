-- The pass that gives the nodes their places: going along the order, a node is given the place behind its parent's if it is the heaviest
-- child there, else the first one that is free behind the heaviest child and the children before it.
-- Assumes nothing.
use Prim.Native.Nat.{ℕ, suc, ◌+◌, ◌%◌, ◌≤◌, ◌<◌}
use mathlib.Core.Path.{◌≡◌, refl, sym, ◌∙◌, subst}
use mathlib.Core.Logic.{◌⊎◌, inl, inr}
use mathlib.Core.Bool.{true, false, ◌&&◌, not, cond}
use mathlib.Core.List.{List}
use native.Mathlib.Omega.{arith}
use lib.ListN.{length, set, length-set}
use lib.Seq.{get_or-set_same, get_or-set_other}
use lib.Dec.{eqb}
use borrow.Author.Tests.{eqb-true, eqb-false}
use Rattle.cuts.specs.Sums.{only}
use Rattle.cuts.specs.Network.{Tree, Network}
use Rattle.cuts.specs.Limits.{most_nodes}
use Rattle.cuts.specs.Tree.{Spanning}
use Rattle.cuts.proofs.FlagLaws.{truth}
use Rattle.cuts.proofs.SumLaws.{all-suc}
use Rattle.arrays.specs.Lists.{entry}
use Rattle.arrays.specs.Order.{Ordered}
use Rattle.arrays.proofs.OrderLaws.{parent_in, not_root}
use Rattle.tree_places.specs.Places.{stop_numbers, Rooted, Sized, Heaviest}
use Rattle.tree_places.specs.Passes.{size_in, in_front, shift, seat, freed, Placing}
use Rattle.tree_places.proofs.SmallLaws.{small}
use Rattle.tree_places.proofs.ShiftLaws.{in_front-suc, in_front-none, sizes_split, sizes_some, sizes_root, shift-inside}

module _ {net : Network} {t : Tree} {order parents uplinks sizes heavy : List ℕ} {nodes : ℕ}
    (r : Rooted net t order parents uplinks nodes) (s : Sized net t uplinks sizes) (m : Heaviest net parents sizes heavy) where
  abbrev g : Spanning net t
  g = r.spanning

  abbrev o : Ordered net t order parents uplinks
  o = r.ordered

  placing_start : (i : ℕ) (place stop free : List ℕ) → i ≡ 1 → entry place 0 ≡ 0 → entry stop 0 ≡ entry sizes 0 → entry free 0 ≡ 1 + size_in sizes (entry heavy 0)
      → Placing net order parents sizes heavy i place stop free
  placing_start i place stop free l a b c = record {
    root = a;
    placed = λ j z d. absurd (omega arith);
    stops = λ j d. let q : j ≡ 0 = omega arith in rw (q, o.listed.start, a, b) (omega arith);
    room = λ j d. let q : j ≡ 0 = omega arith in let e = sizes_root r s m in rw (q, o.listed.start, a) (omega arith);
    frees = λ j d.
        let q : j ≡ 0 = omega arith in
        let e : in_front order parents sizes heavy (entry order 0) 1 ≡ 0 = in_front-none r s m 0 g.linked.rooted in
        rw (q, l, e, o.listed.start, a, c) (omega arith);
  }

  module _ {i : ℕ} {place stop free : List ℕ} (w : Placing net order parents sizes heavy i place stop free) (z : 0 < i) (b : i < net.nodes) where
    abbrev x : ℕ
    x = entry order i

    abbrev p : ℕ
    p = entry parents (entry order i)

    x_in : x < net.nodes
    x_in = o.listed.within i b

    p_in : p < net.nodes
    p_in = parent_in o x x_in (not_root o i z b)

    -- the parent stands before the node
    parent_has : (P : ℕ → Type 0) → ((j : ℕ) → j < i → P (entry order j)) → P p
    parent_has P h = let d = o.listed.tied i z b in subst P d.above (h d.at d.before)

    free-is : entry free p ≡ entry place p + 1 + size_in sizes (entry heavy p) + in_front order parents sizes heavy p i
    free-is = parent_has (λ v. entry free v ≡ entry place v + 1 + size_in sizes (entry heavy v) + in_front order parents sizes heavy v i) w.frees

    seat-is : seat heavy place free p x ≡ entry place p + 1 + shift order parents sizes heavy p i
    seat-is = go (truth (eqb (entry heavy p) x))
      where
        go : (eqb (entry heavy p) x ≡ true) ⊎ (eqb (entry heavy p) x ≡ false) → seat heavy place free p x ≡ entry place p + 1 + shift order parents sizes heavy p i
        go (inl q) = rw q (omega arith)
        go (inr q) = let a = free-is in rw q (omega arith)

    -- the node's places, and the free place behind them, are within the number of nodes
    seat-room : seat heavy place free p x + entry sizes x ≤ net.nodes
    seat-room =
        let a = parent_has (λ v. entry place v + entry sizes v ≤ net.nodes) w.room in
        let c = shift-inside r s m p i z b refl in
        let d = seat-is in
        omega arith

    freed-room : eqb (entry heavy p) x ≡ false → entry free p + entry sizes x ≤ net.nodes
    freed-room q = let a = seat-room in rw q at a

    child-room : seat heavy place free p x + 1 + size_in sizes (entry heavy x) ≤ net.nodes
    child-room = let a = seat-room in let c = sizes_split r s m x x_in in omega arith

    module _ (l : net.nodes ≤ length place) (k : net.nodes ≤ length stop) (n : net.nodes ≤ length free) where
      abbrev place' : List ℕ
      place' = set place x (seat heavy place free p x)

      abbrev stop' : List ℕ
      stop' = set stop x (seat heavy place free p x + entry sizes x)

      abbrev free' : List ℕ
      free' = set (freed heavy sizes free p x) x (seat heavy place free p x + 1 + size_in sizes (entry heavy x))

      other : (j : ℕ) → j < i → entry order j ≡ x → ⊥
      other j c q = let a = o.listed.once j i (omega arith) b q in omega arith

      old : (j : ℕ) → j < i → entry place' (entry order j) ≡ entry place (entry order j)
      old j c = get_or-set_other place x (entry order j) (seat heavy place free p x) 0 (other j c)

      old_parent : (j : ℕ) → 0 < j → j ≤ i → entry place' (entry parents (entry order j)) ≡ entry place (entry parents (entry order j))
      old_parent j a c =
          let d = o.listed.tied j a (omega arith) in
          let e : d.at < j = d.before in
          rw (← d.above) (old d.at (omega arith))

      new : entry place' x ≡ seat heavy place free p x
      new = let u = x_in in get_or-set_same place x (seat heavy place free p x) 0 (omega arith)

      free-old : (j : ℕ) → j < i → entry free' (entry order j) ≡ entry place (entry order j) + 1 + size_in sizes (entry heavy (entry order j)) + in_front order parents sizes heavy (entry order j) (suc i)
      free-old j c = get_or-set_other (freed heavy sizes free p x) x (entry order j) (seat heavy place free p x + 1 + size_in sizes (entry heavy x)) 0 (other j c)
          ∙ go (truth (eqb p (entry order j))) (truth (eqb (entry heavy p) x))
        where
          go : (eqb p (entry order j) ≡ true) ⊎ (eqb p (entry order j) ≡ false) → (eqb (entry heavy p) x ≡ true) ⊎ (eqb (entry heavy p) x ≡ false)
              → entry (freed heavy sizes free p x) (entry order j) ≡ entry place (entry order j) + 1 + size_in sizes (entry heavy (entry order j)) + in_front order parents sizes heavy (entry order j) (suc i)
          go (inl q) (inl y) =
              let a = in_front-suc r s m (entry order j) i z in
              let f = w.frees j c in
              let h : only (eqb p (entry order j) && not (eqb (entry heavy (entry order j)) x)) (entry sizes x) ≡ 0 = rw (q, ← eqb-true p (entry order j) q, y) in
              rw y (omega arith)
          go (inl q) (inr y) =
              let u = p_in in
              let a = in_front-suc r s m (entry order j) i z in
              let f = w.frees j c in
              let h : only (eqb p (entry order j) && not (eqb (entry heavy (entry order j)) x)) (entry sizes x) ≡ entry sizes x = rw (q, ← eqb-true p (entry order j) q, y) in
              let d : entry (set free p (entry free p + entry sizes x)) (entry order j) ≡ entry free (entry order j) + entry sizes x
              = rw (← eqb-true p (entry order j) q) (get_or-set_same free p (entry free p + entry sizes x) 0 (omega arith)) in
              rw y (omega arith)
          go (inr q) y = same y
              ∙ (let a = in_front-suc r s m (entry order j) i z in
              let f = w.frees j c in
              let h : only (eqb p (entry order j) && not (eqb (entry heavy (entry order j)) x)) (entry sizes x) ≡ 0 = rw q in
              omega arith)
            where
              same : (eqb (entry heavy p) x ≡ true) ⊎ (eqb (entry heavy p) x ≡ false) → entry (freed heavy sizes free p x) (entry order j) ≡ entry free (entry order j)
              same (inl y) = rw y
              same (inr y) = rw y (get_or-set_other free p (entry order j) (entry free p + entry sizes x) 0 (λ e. eqb-false p (entry order j) q (sym e)))

      freed-length : length (freed heavy sizes free p x) ≡ length free
      freed-length = go (truth (eqb (entry heavy p) x))
        where
          go : (eqb (entry heavy p) x ≡ true) ⊎ (eqb (entry heavy p) x ≡ false) → length (freed heavy sizes free p x) ≡ length free
          go (inl q) = rw q
          go (inr q) = rw q (length-set free p (entry free p + entry sizes x))

      free_new : entry free' x ≡ seat heavy place free p x + 1 + size_in sizes (entry heavy x)
      free_new = let u = x_in in let a = freed-length in get_or-set_same (freed heavy sizes free p x) x (seat heavy place free p x + 1 + size_in sizes (entry heavy x)) 0 (omega arith)

      placing_step : Placing net order parents sizes heavy (suc i) place' stop' free'
      placing_step = record {
        root = get_or-set_other place x 0 (seat heavy place free p x) 0 (λ q. not_root o i z b (sym q)) ∙ w.root;
        placed = λ j c d. all-suc (λ j. 0 < j → entry place' (entry order j) ≡ entry place' (entry parents (entry order j)) + 1 + shift order parents sizes heavy (entry parents (entry order j)) j) i
            (λ j c a. rw (old j c, old_parent j a (omega arith)) (w.placed j a c))
            (λ a. rw (new, old_parent i a (omega arith)) seat-is) j d c;
        stops = all-suc (λ j. entry stop' (entry order j) ≡ entry place' (entry order j) + entry sizes (entry order j)) i
            (λ j c. get_or-set_other stop x (entry order j) (seat heavy place free p x + entry sizes x) 0 (other j c) ∙ rw (old j c) (w.stops j c))
            (rw new (let u = x_in in get_or-set_same stop x (seat heavy place free p x + entry sizes x) 0 (omega arith)));
        room = all-suc (λ j. entry place' (entry order j) + entry sizes (entry order j) ≤ net.nodes) i
            (λ j c. rw (old j c) (w.room j c))
            (rw new seat-room);
        frees = all-suc (λ j. entry free' (entry order j) ≡ entry place' (entry order j) + 1 + size_in sizes (entry heavy (entry order j)) + in_front order parents sizes heavy (entry order j) (suc i)) i
            (λ j c. rw (old j c) (free-old j c))
            (rw (new, in_front-none r s m i b) (free_new ∙ omega arith));
      }

  -- ---- the pass over lists of most_nodes numbers, with sums to most_nodes

  module _ (b : nodes ≤ most_nodes) where
    pub placing_first : (place stop free : List ℕ) → length place ≡ most_nodes → length stop ≡ most_nodes → length free ≡ most_nodes
        → Placing net order parents sizes heavy 1 (set place 0 0) (set stop 0 ((0 + entry sizes 0) % stop_numbers)) (set free 0 ((1 + size_in sizes (entry heavy 0)) % stop_numbers))
    placing_first place stop free k l n =
        let e = r.counted in
        let z = r.spanning.linked.rooted in
        let c = sizes_root r s m in
        let d = sizes_split r s m 0 z in
        placing_start 1 _ _ _ refl (get_or-set_same place 0 0 0 (omega arith))
        (get_or-set_same stop 0 ((0 + entry sizes 0) % stop_numbers) 0 (omega arith) ∙ small (0 + entry sizes 0) (omega arith) ∙ omega arith)
        (get_or-set_same free 0 ((1 + size_in sizes (entry heavy 0)) % stop_numbers) 0 (omega arith) ∙ small (1 + size_in sizes (entry heavy 0)) (omega arith))

    module _ (i : ℕ) (place stop free : List ℕ) (z : 0 < i) (c : i < nodes) (w : Placing net order parents sizes heavy i place stop free) where
      abbrev at_x : ℕ
      at_x = entry order i

      abbrev at_p : ℕ
      at_p = entry parents (entry order i)

      in_net : i < net.nodes
      in_net = let e = r.counted in omega arith

      -- the free place moved on is within most_nodes
      freed-small : cond (eqb (entry heavy at_p) at_x) free (set free at_p ((entry free at_p + entry sizes at_x) % stop_numbers)) ≡ freed heavy sizes free at_p at_x
      freed-small = go (truth (eqb (entry heavy at_p) at_x))
        where
          go : (eqb (entry heavy at_p) at_x ≡ true) ⊎ (eqb (entry heavy at_p) at_x ≡ false)
              → cond (eqb (entry heavy at_p) at_x) free (set free at_p ((entry free at_p + entry sizes at_x) % stop_numbers)) ≡ freed heavy sizes free at_p at_x
          go (inl q) = rw q
          go (inr q) =
              let a = freed-room w z in_net q in
              let e = r.counted in
              rw (q, small (entry free at_p + entry sizes at_x) (omega arith))

      pub placing_turn : length place ≡ most_nodes → length stop ≡ most_nodes → length free ≡ most_nodes → (at : ℕ) → at ≡ seat heavy place free at_p at_x → (free₁ : List ℕ)
          → free₁ ≡ cond (eqb (entry heavy at_p) at_x) free (set free at_p ((entry free at_p + entry sizes at_x) % stop_numbers))
          → Placing net order parents sizes heavy (suc i) (set place at_x (at % most_nodes)) (set stop at_x ((at + entry sizes at_x) % stop_numbers))
          (set free₁ at_x (((at + 1) % stop_numbers + size_in sizes (entry heavy at_x)) % stop_numbers))
      placing_turn k l n at q free₁ f =
          let e = r.counted in
          let a = seat-room w z in_net in
          let d = child-room w z in_net in
          let h = sizes_some r s m at_x (r.ordered.listed.within i in_net) in
          let at_small : at % most_nodes ≡ at = omega arith in
          rw (at_small, small (at + entry sizes at_x) (omega arith), small (at + 1) (omega arith), small (at + 1 + size_in sizes (entry heavy at_x)) (omega arith), f, freed-small, q)
          (placing_step w z in_net (omega arith) (omega arith) (omega arith))

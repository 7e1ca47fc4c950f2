-- Growing a tree by a queue: the nodes of the order in the making are taken in turn, and of each the members, so that at each node taken
-- no member leads to a node that is not reached. When all are taken, the nodes reached are those that the members join to the root.
-- Assumes nothing.
use Prim.Native.Nat.{ℕ, suc, ◌+◌, ◌≤◌, ◌<◌}
use mathlib.Core.Path.{◌≡◌, refl, sym, ap, ◌∙◌, subst}
use mathlib.Core.Logic.{◌⊎◌, inl, inr}
use mathlib.Core.Bool.{Bool, true, false, cond}
use mathlib.Core.List.{List, map, Memᴰ}
use native.Mathlib.Numerals.{add-one}
use native.Mathlib.Omega.{arith}
use lib.ListN.{length, set, get_or, length-set, get_or-map}
use lib.Seq.{get_or-set_same, get_or-set_other}
use lib.Dec.{eqb}
use Rattle.std.specs.List.{between}
use Rattle.std.proofs.lemmas.List.{map-set}
use Rattle.std.proofs.lemmas.Slice.{between_is}
use borrow.Author.Count.{below_more}
use borrow.Author.Tests.{eqb-true, eqb-false, eq-eqb}
use Rattle.cuts.specs.Sums.{only, count_to}
use Rattle.cuts.specs.Network.{Tree, Network, link_count}
use Rattle.cuts.specs.Tree.{Member}
use Rattle.cuts.specs.Candidate.{member_links}
use Rattle.cuts.specs.Paths.{Meets, forth, back}
use Rattle.cuts.proofs.FlagLaws.{clash, truth, either, agree, or_left, or_right}
use Rattle.cuts.proofs.SumLaws.{sum_congr, sum_const, count_most, count-more, count-lacks}
use Rattle.cuts.proofs.ListLaws.{at_mem, mem_at}
use Rattle.cuts.proofs.Handles.{member_in, member_of}
use Rattle.arrays.specs.Lists.{entry, marked}
use Rattle.arrays.specs.Links.{Held, Ending}
use Rattle.arrays.specs.Grown.{GrownTree}
use Rattle.arrays.proofs.OrderLaws.{ordered_spans, lower_end}
use Rattle.arrays.proofs.GrowthLaws.{Growing, Quiet, growing_step, growing_stuck, growing-done}
use Rattle.arrays.specs.ByNode.{touches, far, links_at, ByNode}
use Rattle.by_node.proofs.EndsLaws.{links_at-of, links_at_in}

-- the links listed at x
abbrev pub listed : List ℕ → List ℕ → ℕ → List ℕ
listed head ends x = between (entry head x) (entry head (x + 1)) ends

-- the far ends of the first k of the links ks at x are reached
abbrev pub Spent : List ℕ → List ℕ → List ℕ → ℕ → List ℕ → ℕ → Type 0
Spent fs ss reached x ks k = (j : ℕ) → j < k → marked reached (far fs ss x (entry ks j)) ≡ true

-- those of all links at x
abbrev pub Swept : List ℕ → List ℕ → List ℕ → List ℕ → List ℕ → ℕ → Type 0
Swept fs ss head ends reached x = Spent fs ss reached x (listed head ends x) (length (listed head ends x))

-- the queue: of the `found` nodes in the order the first i are taken
pub record Queue (fs ss head ends reached order : List ℕ) (nodes i found : ℕ) : Type 0 where
  pub reached_room : length reached ≡ 256
  pub order_room : length order ≡ 256
  pub counted : count_to 256 (marked reached) ≡ found
  pub behind : i ≤ found
  pub within : (p : ℕ) → p < found → entry order p < nodes
  pub swept : (p : ℕ) → p < i → Swept fs ss head ends reached (entry order p)

-- ---- marks

-- the nodes reached, as numbers
abbrev pub marks : List Bool → List ℕ
marks bs = map (λ b. cond b 1 0) bs

pub marked-is : (bs : List Bool) (x : ℕ) → marked (marks bs) x ≡ get_or bs x false
marked-is bs x = ap (λ (n : ℕ). eqb n 1) (get_or-map (λ b. cond b 1 0) bs x false) ∙ at (get_or bs x false)
  where
    at : (b : Bool) → eqb (cond b 1 0) 1 ≡ b
    at true = refl
    at false = refl

pub marks-set : (bs : List Bool) (x : ℕ) → marks (set bs x true) ≡ set (marks bs) x 1
marks-set bs x = map-set (λ b. cond b 1 0) bs x true

mark_same : (reached : List ℕ) (y : ℕ) → y < length reached → marked (set reached y 1) y ≡ true
mark_same reached y b = ap (λ (a : ℕ). eqb a 1) (get_or-set_same reached y 1 0 b)

mark_other : (reached : List ℕ) (y z : ℕ) → (z ≡ y → ⊥) → marked (set reached y 1) z ≡ marked reached z
mark_other reached y z n = ap (λ (a : ℕ). eqb a 1) (get_or-set_other reached y z 1 0 n)

mark_kept : (reached : List ℕ) (y : ℕ) → y < length reached → (z : ℕ) → marked reached z ≡ true → marked (set reached y 1) z ≡ true
mark_kept reached y b z h = go (truth (eqb z y))
  where
    go : (eqb z y ≡ true) ⊎ (eqb z y ≡ false) → marked (set reached y 1) z ≡ true
    go (inl q) = rw (eqb-true z y q) (mark_same reached y b)
    go (inr q) = mark_other reached y z (eqb-false z y q) ∙ h

mark_count : (reached : List ℕ) (y : ℕ) → length reached ≡ 256 → y < 256 → marked reached y ≡ false
    → count_to 256 (marked (set reached y 1)) ≡ suc (count_to 256 (marked reached))
mark_count reached y n b f =
    count-more 256 (marked reached) (marked (set reached y 1)) y b f (mark_same reached y (omega arith)) (λ z _ d. mark_other reached y z d)

-- ---- the queue's turns

module _ {fs ss head ends : List ℕ} {nodes : ℕ} where
  pub queue-start : (reached order : List ℕ) → 0 < nodes → length reached ≡ 256 → length order ≡ 256 → ((x : ℕ) → x < 256 → entry reached x ≡ 0)
      → Queue fs ss head ends (set reached 0 1) (set order 0 0) nodes 0 1
  queue-start reached order b n m z = record {
    reached_room = length-set reached 0 1 ∙ n;
    order_room = length-set order 0 0 ∙ m;
    counted =
        mark_count reached 0 n (omega arith) (rw (z 0 (omega arith)))
        ∙ ap suc (sum_congr 256 (λ x. only (marked reached x) 1) (λ x. 0) (λ x c. rw (z x c)) ∙ sum_const 256 0);
    behind = omega arith;
    within = λ p c. let e : p ≡ 0 = omega arith in rw (e, get_or-set_same order 0 0 0 (omega arith)) b;
    swept = λ p c. absurd (omega arith);
  }

  module _ {reached order : List ℕ} {i found : ℕ} (q : Queue fs ss head ends reached order nodes i found) where
    pub queue-most : found ≤ 256
    queue-most = let a = count_most 256 (marked reached) in let c = q.counted in omega arith

    pub queue-lacks : {y : ℕ} → y < 256 → marked reached y ≡ false → found < 256
    queue-lacks {y} b f = let a = count-lacks 256 (marked reached) y b f in let c = q.counted in omega arith

    -- a node more at the end
    module _ {y : ℕ} (b : y < nodes) (n : nodes ≤ 256) (f : marked reached y ≡ false) where
      old : (p : ℕ) → p < found → entry (set order found y) p ≡ entry order p
      old p c = get_or-set_other order found p y 0 (λ e. omega arith)

      pub queue-step : Queue fs ss head ends (set reached y 1) (set order found y) nodes i (found + 1)
      queue-step =
          let u = queue-lacks (omega arith) f in
          let g : i ≤ found = q.behind in
          record {
            reached_room = length-set reached y 1 ∙ q.reached_room;
            order_room = length-set order found y ∙ q.order_room;
            counted = mark_count reached y q.reached_room (omega arith) f ∙ ap suc q.counted ∙ sym (add-one found);
            behind = omega arith;
            within = below_more (λ p. entry (set order found y) p < nodes) found (λ p c. rw (old p c) (q.within p c))
                (rw (get_or-set_same order found y 0 (let m = q.order_room in omega arith)) b);
            swept = λ p c. rw (old p (omega arith)) (λ j d. mark_kept reached y (let m = q.reached_room in omega arith) _ (q.swept p c j d));
          }

    -- the next node is taken
    pub queue_next : i < found → Swept fs ss head ends reached (entry order i) → Queue fs ss head ends reached order nodes (i + 1) found
    queue_next b s = record {
      reached_room = q.reached_room;
      order_room = q.order_room;
      counted = q.counted;
      behind = omega arith;
      within = q.within;
      swept = below_more (λ p. Swept fs ss head ends reached (entry order p)) i q.swept s;
    }

-- ---- the links listed at a node

module _ {fs ss ks head ends : List ℕ} {nodes : ℕ} (e : ByNode fs ss ks head ends nodes) {x : ℕ} (b : x < nodes) where
  listed-are : listed head ends x ≡ links_at fs ss x ks
  listed-are = between_is ends (entry head x) (entry head (x + 1)) ∙ e.at x b

  listed_of : {j : ℕ} → j < length (listed head ends x)
      → Memᴰ (entry (listed head ends x) j) ks × (touches fs ss x (entry (listed head ends x) j) ≡ true)
  listed_of {j} c =
      links_at-of fs ss x ks (subst (Memᴰ (entry (listed head ends x) j)) listed-are (at_mem 0 (listed head ends x) j c))

  pub listed-known : {j : ℕ} → j < length (listed head ends x) → Ending fs ss nodes (entry (listed head ends x) j)
  listed-known c = e.known _ (listed_of c).0

-- ---- the order

module _ {fs ss head ends : List ℕ} {nodes : ℕ} {net : Network} {t : Tree} (h : Held net fs ss nodes) (e : ByNode fs ss (member_links net t) head ends nodes)
    {reached order parents uplinks : List ℕ} {found : ℕ} (w : Growing net t reached order parents uplinks found) where
  -- a link with an end at x joins it to its far end
  meets-far : {x k : ℕ} → k < link_count net → touches fs ss x k ≡ true → Meets net k (far fs ss x k) x
  meets-far {x} {k} b c = go (truth (eqb (entry fs k) x)) (either (eqb (entry fs k) x) (eqb (entry ss k) x) c)
    where
      go : (eqb (entry fs k) x ≡ true) ⊎ (eqb (entry fs k) x ≡ false) → (eqb (entry fs k) x ≡ true) ⊎ (eqb (entry ss k) x ≡ true) → Meets net k (far fs ss x k) x
      go (inl q) r = rw q (back (h.seconds k b) (h.firsts k b ∙ eqb-true (entry fs k) x q))
      go (inr q) (inl r) = clash r q
      go (inr q) (inr r) = rw q (forth (h.firsts k b) (h.seconds k b ∙ eqb-true (entry ss k) x r))

  pub grown-more : {p j : ℕ} → p < found → j < length (listed head ends (entry order p))
      → marked reached (far fs ss (entry order p) (entry (listed head ends (entry order p)) j)) ≡ false
      → let k = entry (listed head ends (entry order p)) j in
      let y = far fs ss (entry order p) k in
      Growing net t (set reached y 1) (set order found y) (set parents y (entry order p)) (set uplinks y k) (found + 1)
  grown-more {p} b c f =
      let a : entry order p < nodes = rw h.sized at (w.listed.within p b) in
      let m = listed_of e a c in
      let k = member_of net t m.0 in
      rw (add-one found) (growing_step h.linked w (record { member = k; meets = meets-far k.is_link m.1 }) f (w.holds p b))

  -- all nodes of the order are taken
  pub grown_stuck : {i : ℕ} → Queue fs ss head ends reached order nodes i found → i ≡ found → found < nodes → GrownTree net t order parents uplinks false
  grown_stuck {i} q d b = record {
    joined = sym (growing_stuck h.linked w quiet (let s = h.sized in omega arith));
    ordered = λ z. clash z refl;
    owned = λ z. clash z refl;
  }
    where
      -- at a node reached, a member's far end is reached
      through : {k x : ℕ} → Member net t k → x < nodes → touches fs ss x k ≡ true → marked reached x ≡ true → marked reached (far fs ss x k) ≡ true
      through {k} {x} m a c r =
          let o = w.found x (rw h.sized a) r in
          let z : entry order o.0 ≡ x = o.2 in
          let ks = links_at fs ss x (member_links net t) in
          let p = mem_at 0 (links_at_in fs ss x (member_links net t) (member_in net t m) c) in
          let s : Spent fs ss reached x ks (length ks)
          = subst (λ (l : List ℕ). Spent fs ss reached x l (length l)) (listed-are e a) (rw z at (q.swept o.0 (omega (arith, o.1)))) in
          rw p.2 at (s p.0 p.1)

      quiet : Quiet net t reached
      quiet k m = rw (h.firsts k m.is_link, h.seconds k m.is_link) (agree _ _ first second)
        where
          known : (entry fs k < nodes) × (entry ss k < nodes)
          known = let z = e.known k (member_in net t m) in (z.first_in, z.second_in)

          first : marked reached (entry ss k) ≡ true → marked reached (entry fs k) ≡ true
          first r = go (truth (eqb (entry fs k) (entry ss k)))
            where
              go : (eqb (entry fs k) (entry ss k) ≡ true) ⊎ (eqb (entry fs k) (entry ss k) ≡ false) → marked reached (entry fs k) ≡ true
              go (inl z) = ap (marked reached) (eqb-true (entry fs k) (entry ss k) z) ∙ r
              go (inr z) =
                  rw z at (through m known.1 (or_right (eqb (entry fs k) (entry ss k)) _ (eq-eqb (entry ss k) (entry ss k) refl)) r)

          second : marked reached (entry fs k) ≡ true → marked reached (entry ss k) ≡ true
          second r =
              let z : eqb (entry fs k) (entry fs k) ≡ true = eq-eqb (entry fs k) (entry fs k) refl in
              rw z at (through m known.0 (or_left (eqb (entry fs k) (entry fs k)) _ z) r)

  pub grown-done : nodes ≤ found → GrownTree net t order parents uplinks true
  grown-done b =
      let m = count_most net.nodes (marked reached) in
      let c = w.counted in
      let s = h.sized in
      let o = growing-done w (omega arith) in
      record {
        joined = sym (ordered_spans o h.linked);
        ordered = λ _. o;
        owned = λ _ c. lower_end o h.linked.rooted c;
      }

-- ---- the whole state, for every network and tree that the arrays hold

-- between two nodes
pub record Run (fs ss head ends : List ℕ) (nodes : ℕ) (reached order parents uplinks : List ℕ) (i found : ℕ) : Type 0 where
  pub parents_room : length parents ≡ 256
  pub uplinks_room : length uplinks ≡ 256
  pub queue : Queue fs ss head ends reached order nodes i found
  pub growing : (net : Network) (t : Tree) → Held net fs ss nodes → ByNode fs ss (member_links net t) head ends nodes
      → Growing net t reached order parents uplinks found

-- with the first k of the links at node x, which is taken next, passed
pub record Row (fs ss head ends : List ℕ) (nodes : ℕ) (reached order parents uplinks : List ℕ) (i found x k : ℕ) : Type 0 where
  pub run : Run fs ss head ends nodes reached order parents uplinks i found
  pub next : i < found
  pub here : x ≡ entry order i
  pub spent : Spent fs ss reached x (listed head ends x) k

module _ {fs ss head ends : List ℕ} {nodes : ℕ} {reached order parents uplinks : List ℕ} {i found x k : ℕ}
    (r : Row fs ss head ends nodes reached order parents uplinks i found x k) where
  -- the far end is reached
  pub run_pass : marked reached (far fs ss x (entry (listed head ends x) k)) ≡ true
      → Row fs ss head ends nodes reached order parents uplinks i found x (k + 1)
  run_pass m = record {
    run = r.run;
    next = r.next;
    here = r.here;
    spent = below_more (λ j. marked reached (far fs ss x (entry (listed head ends x) j)) ≡ true) k r.spent m;
  }

  -- it is not
  pub run_step : {y : ℕ} → y ≡ far fs ss x (entry (listed head ends x) k) → y < nodes → nodes ≤ 256 → k < length (listed head ends x)
      → marked reached y ≡ false
      → Row fs ss head ends nodes (set reached y 1) (set order found y) (set parents y x) (set uplinks y (entry (listed head ends x) k))
      i (found + 1) x (k + 1)
  run_step {y} e b n c f =
      let q = r.run.queue in
      let u : i < found = r.next in
      let m : y < length reached = let z = q.reached_room in omega arith in
      record {
        run = record {
          parents_room = length-set parents y x ∙ r.run.parents_room;
          uplinks_room = length-set uplinks y _ ∙ r.run.uplinks_room;
          queue = queue-step q b n f;
          growing = λ net t h g. rw (e, r.here) (grown-more h g (r.run.growing net t h g) u (rw r.here at c) (rw (e, r.here) at f));
        };
        next = omega arith;
        here = r.here ∙ sym (get_or-set_other order found i y 0 (λ z. omega arith));
        spent = below_more (λ j. marked (set reached y 1) (far fs ss x (entry (listed head ends x) j)) ≡ true) k
            (λ j d. mark_kept reached y m _ (r.spent j d)) (rw (← e) (mark_same reached y m));
      }

  -- all links at the node are passed
  pub run_end : length (listed head ends x) ≤ k → Run fs ss head ends nodes reached order parents uplinks (i + 1) found
  run_end b = record {
    parents_room = r.run.parents_room;
    uplinks_room = r.run.uplinks_room;
    queue = queue_next r.run.queue r.next (rw (← r.here) (λ j d. r.spent j (omega arith)));
    growing = r.run.growing;
  }

-- Counting nodes and depth.
use Rattle.std.proofs.Common.{◌≡◌, ℕ, ◌+◌, ◌-◌, ◌≤◌, max, Option, Some, None, Bool, true, false, ◌||◌, cond, ap, sym, ◌∙◌, refl, arith}
use Rattle.std.proofs.lemmas.Bool.Decides.{nat_tests}
use Rattle.std.specs.Prelude.{nat_lt}
use Rattle.kernele.specs.Tree.{Tree, Trees}
use Rattle.kernele_scopes.specs.Scope.{nodes, nodes_in, depth, depth_in, Scopes, Checked, checked_all, checked_program}
use Rattle.kernele_scopes.specs.Parts.{NamePart, first, second, third, part_nodes, part_depth}
use Rattle.kernele_scopes.specs.Room.{room_behind}
use Rattle.kernele_scopes.specs.declared.count.Room.{Room}
use Rattle.kernele_scopes.proofs.Constructs.{nodes_in_parts, depth_in_parts}

-- a tree is a node
some_node : (t : Tree) → 1 ≤ nodes t
some_node t = omega (arith, nodes_in_parts t)

-- where so many levels may stand, and a tree was too deep already or one part or another is, all of it is too deep
deeper : (already : Bool) (levels d e : ℕ) → ((already || nat_lt levels d) || nat_lt levels e) ≡ (already || nat_lt levels (max d e))
deeper true levels d e = refl
deeper false levels d e = grind (arith, nat_tests)

-- below a node there is a level less, and where there was none it was too deep already
below_node : (already : Bool) (levels below d : ℕ) → below ≡ levels - 1 → ((already || nat_lt levels 1) || nat_lt below d) ≡ (already || nat_lt levels (1 + d))
below_node true levels below d h = refl
below_node false levels below d h = grind (arith, nat_tests)

-- what is too many for a part is too many for the whole
too_many : (k n m : ℕ) → true ≡ nat_lt k n → true ≡ nat_lt k (n + m)
too_many k n m h = grind (arith, nat_tests)

none_left : (over : Bool) (k n : ℕ) (one more : Room) → over ≡ nat_lt k 1 → None ≡ cond over None (Some one) → None ≡ cond (nat_lt k (n + 1)) None (Some more)
none_left true k n one more is h = ap (λ b. cond b None (Some more)) (too_many k 1 n is ∙ ap (nat_lt k) (omega arith))
none_left false k n one more is h = absurd (cc)

none_more : (levels : ℕ) (o : Option Room) (n d : ℕ) → None ≡ room_behind levels o 1 1 → None ≡ room_behind levels o (n + 1) d
none_more levels None n d h = refl
none_more levels (Some room) n d h = none_left (nat_lt room.nodes 1) room.nodes n _ _ refl h

-- what is not too many for a part is compared with the rest
few_left : (k n m : ℕ) → false ≡ nat_lt k n → nat_lt (k - n) m ≡ nat_lt k (n + m)
few_left k n m h = grind (arith, nat_tests)

less_both : (k n m : ℕ) → (k - n) - m ≡ k - (n + m)
less_both k n m = omega arith

-- what is left behind a part of a tree, and then behind the rest, is what is left behind the whole
parts : (over : Bool) (k n m : ℕ) (deep both : Bool) (below e : ℕ) → over ≡ nat_lt k n → (deep || nat_lt below e) ≡ both
    → room_behind below (cond over None (Some (record { nodes = k - n; too_deep = deep }))) m e ≡ cond (nat_lt k (n + m)) None (Some (record { nodes = k - (n + m); too_deep = both }))
parts true k n m deep both below e is same =
    ap (λ o. cond o None (Some (record { nodes = k - (n + m); too_deep = both }))) (too_many k n m is)
parts false k n m deep both below e is same =
    λ i. cond (few_left k n m is i) None (Some (record { nodes = less_both k n m i; too_deep = same i }))

-- what is left behind two parts one after the other is what is left behind both
pub behind_both : (levels : ℕ) (o : Option Room) (n d m e : ℕ) → room_behind levels (room_behind levels o n d) m e ≡ room_behind levels o (n + m) (max d e)
behind_both levels None n d m e = refl
behind_both levels (Some room) n d m e = parts (nat_lt room.nodes n) room.nodes n m _ _ levels e refl (deeper room.too_deep levels d e)

-- what is left behind a node and what stands below it
pub behind_below : (levels below : ℕ) (o : Option Room) (n d : ℕ) → below ≡ levels - 1 → room_behind below (room_behind levels o 1 1) n d ≡ room_behind levels o (1 + n) (1 + d)
behind_below levels below None n d h = refl
behind_below levels below (Some room) n d h = parts (nat_lt room.nodes 1) room.nodes 1 n _ _ below d refl (below_node room.too_deep levels below d h)

-- where no node may be left, no tree may be either
pub none_behind : (levels : ℕ) (o : Option Room) (t : Tree) → None ≡ room_behind levels o 1 1 → None ≡ room_behind levels o (nodes t) (depth t)
none_behind levels o t h = none_more levels o (nodes t - 1) (depth t) h ∙ ap (λ n. room_behind levels o n (depth t)) (omega (arith, some_node t))

-- what is left behind a tree, from what is left behind the node on it and behind what stands below it
behind_whole : (levels : ℕ) {below : ℕ} (o : Option Room) {passed : Option Room} (n d : ℕ) {whole deep : ℕ} → below ≡ levels - 1 → passed ≡ room_behind levels o 1 1 → whole ≡ 1 + n → deep ≡ 1 + d
    → room_behind below passed n d ≡ room_behind levels o whole deep
behind_whole levels {below = below} o n d under node more lower =
    ap (λ r. room_behind below r n d) node ∙ behind_below levels below o n d under ∙ (λ i. room_behind levels o (sym more i) (sym lower i))

-- what is left behind a tree, from what is left behind the node on it and then behind each of its parts
pub behind_parts : (levels : ℕ) {below : ℕ} (o : Option Room) {passed after then_left last : Option Room} (t : Tree) {one two three : NamePart} → below ≡ levels - 1 → passed ≡ room_behind levels o 1 1
    → one ≡ first t → after ≡ room_behind below passed (part_nodes one) (part_depth one)
    → two ≡ second t → then_left ≡ room_behind below after (part_nodes two) (part_depth two)
    → three ≡ third t → last ≡ room_behind below then_left (part_nodes three) (part_depth three)
    → last ≡ room_behind levels o (nodes t) (depth t)
behind_parts levels {below = below} o {passed = passed} t under node is left next left' end left'' =
    left'' ∙ (λ i. room_behind below (left' i) (part_nodes (end i)) (part_depth (end i)))
    ∙ (λ i. room_behind below (room_behind below (left i) (part_nodes (next i)) (part_depth (next i))) n'' d'')
    ∙ (λ i. room_behind below (room_behind below (room_behind below passed (part_nodes (is i)) (part_depth (is i))) n' d') n'' d'')
    ∙ behind_both below (room_behind below passed n d) n' d' n'' d''
    ∙ behind_both below passed n d (n' + n'') (max d' d'')
    ∙ behind_whole levels o (n + (n' + n'')) (max d (max d' d'')) under node (nodes_in_parts t) (depth_in_parts t)
  where
    n : ℕ
    n = part_nodes (first t)

    n' : ℕ
    n' = part_nodes (second t)

    n'' : ℕ
    n'' = part_nodes (third t)

    d : ℕ
    d = part_depth (first t)

    d' : ℕ
    d' = part_depth (second t)

    d'' : ℕ
    d'' = part_depth (third t)

-- behind no nodes is left what was left before them
not_deeper : (already : Bool) (levels : ℕ) → already ≡ (already || nat_lt levels 0)
not_deeper true levels = refl
not_deeper false levels = grind (arith, nat_tests)

none_more_than : (k : ℕ) → false ≡ nat_lt k 0
none_more_than k = grind (arith, nat_tests)

none_taken : (k : ℕ) → k ≡ k - 0
none_taken k = omega arith

pub behind_none : (levels : ℕ) (o : Option Room) → o ≡ room_behind levels o 0 0
behind_none levels None = refl
behind_none levels (Some room) = λ i. cond (none_more_than room.nodes i) None (Some (record { nodes = none_taken room.nodes i; too_deep = not_deeper room.too_deep levels i }))

-- a program that leaves room, in which no tree was too deep, is refused for its names alone
in_room : (over deep : Bool) (room whole : Room) (x y z : Checked) → Some room ≡ cond over None (Some whole) → deep ≡ whole.too_deep → room.too_deep ≡ false → cond over x (cond deep y z) ≡ z
in_room true deep room whole x y z left is shallow = absurd (cc)
in_room false deep room whole x y z left is shallow =
    let same : room ≡ whole = cc in ap (λ b. cond b y z) (is ∙ sym (ap (λ r. r.too_deep) same) ∙ shallow)

pub checked_within : (ts : Trees) (s : Scopes) (room whole : Room) → Some room ≡ cond (nat_lt 16384 (nodes_in ts)) None (Some whole) → nat_lt 200 (depth_in ts) ≡ whole.too_deep → room.too_deep ≡ false
    → checked_program ts s ≡ checked_all ts s
checked_within ts s room whole left is shallow = in_room (nat_lt 16384 (nodes_in ts)) (nat_lt 200 (depth_in ts)) room whole _ _ _ left is shallow

-- Worked rows: messages of a rank, and who tells whom among 11 ranks.
use Rattle.std.proofs.Common.{◌≡◌, true, false, refl}
use Rattle.fab_topology.specs.declared.kinds.Topology.TheVariants.{Mesh, Dissemination, Star, Tree}
use Rattle.fab_topology.specs.Rounds.{distance, hears, rounds_of, source_of, target_of, tells, width}
use Rattle.fab_topology.specs.Laws.{messages}

mesh-7 : messages Mesh 7 3 ≡ 6
mesh-7 = refl

dissemination-7 : messages Dissemination 7 3 ≡ 3
dissemination-7 = refl

star-7 : messages (Star 3) 7 3 ≡ 6
star-7 = refl

tree-7 : messages (Tree 3) 7 3 ≡ 3
tree-7 = refl

mesh-8 : messages Mesh 8 3 ≡ 7
mesh-8 = refl

dissemination-8 : messages Dissemination 8 3 ≡ 3
dissemination-8 = refl

star-8 : messages (Star 3) 8 3 ≡ 7
star-8 = refl

tree-8 : messages (Tree 3) 8 3 ≡ 3
tree-8 = refl

mesh-9 : messages Mesh 9 3 ≡ 8
mesh-9 = refl

dissemination-9 : messages Dissemination 9 3 ≡ 4
dissemination-9 = refl

star-9 : messages (Star 3) 9 3 ≡ 8
star-9 = refl

tree-9 : messages (Tree 3) 9 3 ≡ 4
tree-9 = refl

mesh-32 : messages Mesh 32 3 ≡ 31
mesh-32 = refl

dissemination-32 : messages Dissemination 32 3 ≡ 5
dissemination-32 = refl

star-32 : messages (Star 3) 32 3 ≡ 31
star-32 = refl

tree-32 : messages (Tree 3) 32 3 ≡ 5
tree-32 = refl

mesh-64 : messages Mesh 64 3 ≡ 63
mesh-64 = refl

dissemination-64 : messages Dissemination 64 3 ≡ 6
dissemination-64 = refl

star-64 : messages (Star 3) 64 3 ≡ 63
star-64 = refl

tree-64 : messages (Tree 3) 64 3 ≡ 6
tree-64 = refl

-- of a tree's other ranks the first sends one less, and the last none
tree-32-first : messages (Tree 3) 32 4 ≡ 4
tree-32-first = refl

tree-32-last : messages (Tree 3) 32 2 ≡ 0
tree-32-last = refl

one_rank : rounds_of Dissemination 1 ≡ 0
one_rank = refl

-- the last round tells of the three ranks that are left
last_of_11 : distance Dissemination 3 ≡ 8
last_of_11 = refl

last_width_of_11 : width Dissemination 11 3 ≡ 3
last_width_of_11 = refl

-- rank 9 hears rank 0 in round 1, and tells rank 7
around_from : source_of Dissemination 11 9 1 ≡ 0
around_from = refl

around_to : target_of Dissemination 11 9 1 ≡ 7
around_to = refl

-- in a tree from rank 9, rank 1 is three steps on: it hears rank 10 in round 1, and tells rank 5 in round 2
tree_hears : hears (Tree 9) 11 1 1 ≡ true
tree_hears = refl

tree_hears_once : hears (Tree 9) 11 1 0 ≡ false
tree_hears_once = refl

tree_source : source_of (Tree 9) 11 1 1 ≡ 10
tree_source = refl

tree_tells : tells (Tree 9) 11 1 2 ≡ true
tree_tells = refl

tree_target : target_of (Tree 9) 11 1 2 ≡ 5
tree_target = refl

use Rattle.std.proofs.Common.{◌≡◌, ℕ, ◌+◌, ◌-◌, ◌<◌, ◌≤◌, List, [], ◌++◌, drop, length, sym, ap, ◌∙◌, arith, length-append, append-nil}
use Rattle.std.proofs.lemmas.List.{drop_all}
use Rattle.jk_log.specs.declared.entry.Entry.{Entry}
use Rattle.jk_board.specs.Levels.{of_newest, of_older, of_oldest}
use Rattle.jk_board.proofs.Dropping.{drop_three}
use Rattle.jk_board.proofs.posted.Posted.without_read.Goals as goal

pub returns-clause-follows : goal.returns-clause-follows
returns-clause-follows c =
    let b = c.args.self.now in
    let xs : List Entry = of_oldest b.oldest in
    let ys : List Entry = of_older b.older in
    let zs : List Entry = of_newest b.newest in
    let us : List Entry = of_oldest c.in_ok-oldest.oldest in
    let vs : List Entry = of_older c.in_ok-older.older in
    let ws : List Entry = of_newest c.in_ok-newest.newest in
    let first : ℕ = c.in_ok-oldest.first in
    let second : ℕ = c.in_ok-older.second in
    let third : ℕ = c.in_ok-newest.third in
    let in_xs : first ≤ length xs = c.in_ok-oldest.ensures.within.0 in
    let in_ys : second ≤ length ys = c.in_ok-older.ensures.within.0 in
    let in_zs : third ≤ length zs = c.in_ok-newest.ensures.within.0 in
    let due : second ≤ c.left_for_next-left.result = c.in_ok-older.ensures.within.1 in
    let due_then : third ≤ c.left_for_next-left-2.result = c.in_ok-newest.ensures.within.1 in
    let before : first ≤ c.saturating_sub-read.result = c.in_ok-oldest.ensures.within.1 in
    let none : 0 < second → us ≡ [] = λ some. c.is_empty.ensures.yes (c.left_for_next-left.ensures.none (omega (arith, some, due))) in
    let none_then : 0 < third → us ++ vs ≡ [] = λ some.
    ap (λ (l : List Entry). l ++ vs) (c.is_empty.ensures.yes (c.left_for_next-left.ensures.none (omega (arith, some, due_then, c.left_for_next-left-2.ensures.within))))
    ∙ c.is_empty-2.ensures.yes (c.left_for_next-left-2.ensures.none (omega (arith, some, due_then))) in
    let size : first + second + third ≤ length ((xs ++ ys) ++ zs) = omega (arith, in_xs, in_ys, in_zs, length-append (xs ++ ys) zs, length-append xs ys) in
    let read : first + second + third ≤ c.args.place - b.dropped =
    omega (arith, before, due, due_then, c.left_for_next-left.ensures.within, c.left_for_next-left-2.ensures.within, c.saturating_sub-read.ensures) in (
      first + second + third,
      size,
      read,
      omega arith,
      drop_three first second third xs ys zs us vs ws c.in_ok-oldest.ensures.all c.in_ok-older.ensures.all c.in_ok-newest.ensures.all in_xs in_ys none none_then
          ∙ sym (append-nil (drop (first + second + third) ((xs ++ ys) ++ zs))),
    )

-- a row is empty where so many entries are dropped as it has
dropped_all : (n : ℕ) (xs us : List Entry) → us ≡ drop n xs → n ≡ length xs → us ≡ []
dropped_all n xs us is all = is ∙ drop_all n xs (omega (arith, all))

pub returns-clause-past : goal.returns-clause-past
returns-clause-past c big =
    let b = c.args.self.now in
    let xs : List Entry = of_oldest b.oldest in
    let ys : List Entry = of_older b.older in
    let zs : List Entry = of_newest b.newest in
    let us : List Entry = of_oldest c.in_ok-oldest.oldest in
    let vs : List Entry = of_older c.in_ok-older.older in
    let ws : List Entry = of_newest c.in_ok-newest.newest in
    let size : length ((xs ++ ys) ++ zs) ≡ (length xs + length ys) + length zs = omega (arith, length-append (xs ++ ys) zs, length-append xs ys) in
    let first : c.in_ok-oldest.first ≡ length xs = c.in_ok-oldest.ensures.past (omega (arith, big, size, c.saturating_sub-read.ensures)) in
    let no_us : us ≡ [] = dropped_all c.in_ok-oldest.first xs us c.in_ok-oldest.ensures.all first in
    let left = c.left_for_next-left.ensures.all (c.is_empty.ensures.no no_us) in
    let second : c.in_ok-older.second ≡ length ys = c.in_ok-older.ensures.past (omega (arith, big, size, first, left, c.saturating_sub-read.ensures)) in
    let no_vs : vs ≡ [] = dropped_all c.in_ok-older.second ys vs c.in_ok-older.ensures.all second in
    let last = c.left_for_next-left-2.ensures.all (c.is_empty-2.ensures.no no_vs) in
    let third : c.in_ok-newest.third ≡ length zs = c.in_ok-newest.ensures.past (omega (arith, big, size, first, left, second, last, c.saturating_sub-read.ensures)) in
    let no_ws : ws ≡ [] = dropped_all c.in_ok-newest.third zs ws c.in_ok-newest.ensures.all third in
    ap (λ (l : List Entry). (l ++ vs) ++ ws) no_us ∙ ap (λ (l : List Entry). l ++ ws) no_vs ∙ no_ws

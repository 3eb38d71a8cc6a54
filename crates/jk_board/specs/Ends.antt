-- To be believed.
-- What a clause sees of the ends of a board. L is the language, and S, T, M are its sessions, trees and machines.
use Rattle.std.specs.Prelude.{◌≡◌, List, [], take}
use Rattle.jk_log.specs.declared.entry.Entry.{Entry}
use Rattle.atomic_table.specs.Seated.{TableId}
use Rattle.left_right.specs.Sides.{view}
use Rattle.jk_queues.specs.Ends.{taker_inbox}
use Rattle.jk_board.specs.declared.publisher.Publisher.{Publisher}
use Rattle.jk_board.specs.declared.follower.Follower.{Follower}
use Rattle.jk_board.specs.declared.news.News.{News}
use Rattle.jk_board.specs.declared.board.Followers.{Followers}

module _ {L S T M : Type 0} where
  -- all that was published, in order
  abbrev pub published : Publisher L S T M → List Entry
  published p = (view p.copies.desk.place).seen

  abbrev pub publisher_board : Publisher L S T M → TableId
  publisher_board p = p.copies.desk.place.table_id

  -- the inbox of the kernel for which its board was made
  abbrev pub publisher_of : Publisher L S T M → TableId
  publisher_of p = taker_inbox p.owner.value

  -- the whole board that this follower found last, and those that it was told of
  abbrev pub found_by : Follower L S T M → List Entry
  found_by f = (view f.reader.place).seen

  abbrev pub told_to : Follower L S T M → List (List Entry)
  told_to f = (view f.reader.place).told

  abbrev pub follower_board : Follower L S T M → TableId
  follower_board f = f.reader.place.table_id

  -- the inbox of the kernel whose board this follower follows
  abbrev pub board_of : Follower L S T M → TableId
  board_of f = taker_inbox f.owner.value.value

  -- all that this follower has read or passed, in order
  abbrev pub read_by : Follower L S T M → List Entry
  read_by f = take f.place (found_by f)

  -- what the news tells of
  abbrev pub news_of : News L S T M → List Entry
  news_of n = (view n.reader.place).seen

  -- the inbox of the kernel on whose board it was published
  abbrev pub news_from : News L S T M → TableId
  news_from n = taker_inbox n.owner.value.value

  -- it follows this board, and has read nothing
  abbrev pub IsNewFollower : TableId → Follower L S T M → Type 0
  IsNewFollower id f = (follower_board f ≡ id) × (found_by f ≡ []) × (told_to f ≡ []) × (f.place ≡ 0)

  abbrev pub AreNew : TableId → Followers L S T M → Type 0
  AreNew id f = IsNewFollower id f.zero × IsNewFollower id f.one × IsNewFollower id f.two × IsNewFollower id f.three × IsNewFollower id f.four
      × IsNewFollower id f.five × IsNewFollower id f.six × IsNewFollower id f.seven × IsNewFollower id f.recorder

  -- all nine follow the board of the kernel with this inbox
  abbrev pub AreFollowersOf : TableId → Followers L S T M → Type 0
  AreFollowersOf id f = (board_of f.zero ≡ id) × (board_of f.one ≡ id) × (board_of f.two ≡ id) × (board_of f.three ≡ id) × (board_of f.four ≡ id)
      × (board_of f.five ≡ id) × (board_of f.six ≡ id) × (board_of f.seven ≡ id) × (board_of f.recorder ≡ id)

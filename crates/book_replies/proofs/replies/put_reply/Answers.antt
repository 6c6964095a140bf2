use Rattle.book_replies.proofs.ListingLaws.{pending_is}
use Rattle.book_replies.specs.Replies.{orders_text, pending_text}
use Rattle.book_replies.proofs.replies.put_reply.Goals as goal

pub put_tried-requires-clause-valid : goal.put_tried-requires-clause-valid
put_tried-requires-clause-valid c = c.requires.valid _ c.in-Previewed.is

pub returns-in-NoBook : goal.returns-in-NoBook
returns-in-NoBook c = rw c.in-NoBook.is c.bytes-in-NoBook.ensures

pub returns-in-Orders : goal.returns-in-Orders
unfolding orders_text
returns-in-Orders c = rw c.in-Orders.is c.put_orders.ensures

pub returns-in-PendingOrders : goal.returns-in-PendingOrders
unfolding pending_text
returns-in-PendingOrders c = rw (c.in-PendingOrders.is, pending_is _) c.put_orders-in-PendingOrders.ensures

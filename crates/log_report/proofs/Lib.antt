mod DirtyFound
mod PagesAdded
mod ShownReport
mod SmallCounts
mod WholeText
